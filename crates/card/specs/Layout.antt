-- What a card holds, by index. Assumes nothing.
use Rattle.std.specs.Prelude.{ℕ, ◌+◌, ◌/◌, ◌%◌, Bool, false, get_or, replicate}
use Rattle.bundle.specs.Limits.{folder_limit, file_limit, remapping_limit}
use Rattle.card.specs.declared.parts.Node.{Node}
use Rattle.card.specs.declared.parts.Link.{Link}
use Rattle.card.specs.declared.parts.Map.{Map}
use Rattle.card.specs.declared.parts.Card.{Card}

-- `/`, the folders and the files; the chains, by a hash's highest bits
abbrev pub node_limit : ℕ
node_limit = folder_limit + file_limit + 1

abbrev pub bucket_limit : ℕ
bucket_limit = 256

-- the chain of a hash
abbrev pub bucket_of : ℕ → ℕ
bucket_of h = h / 16777216 % bucket_limit

-- a multiplier is below this: products of a hash and a multiplier stay below 2^61
abbrev pub key_limit : ℕ
key_limit = 536870912

-- past the end of a list
abbrev pub no_node : Node
no_node = record { start = 0; parent = 0; is_root = false }

abbrev pub no_link : Link
no_link = record { hash = 0; next = 0 }

abbrev pub no_map : Map
no_map = record { context = 0; target = 0; place = 0 }

abbrev pub empty : Card
empty = record {
  nodes = replicate node_limit no_node;
  links = replicate node_limit no_link;
  heads = replicate bucket_limit 0;
  key = 0;
  maps = replicate remapping_limit no_map;
  folders = 0;
  remappings = 0;
  files = 0;
  root = 0;
}

abbrev pub node_at : Card → ℕ → Node
node_at c i = get_or c.nodes i no_node

abbrev pub parent_at : Card → ℕ → ℕ
parent_at c i = (node_at c i).parent

abbrev pub start_at : Card → ℕ → ℕ
start_at c i = (node_at c i).start

abbrev pub root_at : Card → ℕ → Bool
root_at c i = (node_at c i).is_root

abbrev pub link_at : Card → ℕ → Link
link_at c i = get_or c.links i no_link

abbrev pub hash_at : Card → ℕ → ℕ
hash_at c i = (link_at c i).hash

abbrev pub next_at : Card → ℕ → ℕ
next_at c i = (link_at c i).next

abbrev pub head_at : Card → ℕ → ℕ
head_at c b = get_or c.heads b 0

abbrev pub map_at : Card → ℕ → Map
map_at c j = get_or c.maps j no_map
