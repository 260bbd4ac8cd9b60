-- The refusals 1 to 6: header first, then fields in byte order, each as cut, kind, count, form. A scan starts at `at`, has to
-- end by `end`, the end of its container, and answers where the next field starts, or a number and a place. Assumes nothing.
use Rattle.std.specs.Prelude.{ℕ, zero, suc, ◌+◌, ◌-◌, ◌*◌, Bool, cond, ◌&&◌, List, length, get_or, take, drop, eqb, ltb, leb}
use Rattle.names.specs.Path.{is_path}
use Rattle.names.specs.Identifier.{is_identifier}
use Rattle.bundle.specs.Limits.{defined, header, width, item_limit, most_uses, segment_limit, element_limit, depth_limit, use_kind, module_kind, ignored_kind}
use Rattle.bundle.specs.Results.{Scan}
use Rattle.bundle.specs.Results.{Next, Bad}
use Rattle.bundle.specs.Results.{Walk}
use Rattle.bundle.specs.Results.{Past, Fault}
use Rattle.bundle.specs.declared.Width.{Width}
use Rattle.bundle.specs.declared.Width.TheVariants.{Byte, Word}
use Rattle.bundle.specs.declared.Field.{Field}
use Rattle.bundle.specs.declared.Field.TheVariants.{Path, Name, Element, Remapping}

-- the byte at `at`; the 2-byte number there; the string there
abbrev pub byte : List ℕ → ℕ → ℕ
byte s at = get_or s at 0

abbrev pub word : List ℕ → ℕ → ℕ
word s at = byte s at * 256 + byte s (at + 1)

abbrev pub text : List ℕ → ℕ → List ℕ
text s at = take (byte s at) (drop (at + 1) s)

-- the version of the bytes
abbrev pub version_of : List ℕ → ℕ
version_of s = byte s 0

-- the count of a width at `at`: its value, and where it ends
abbrev pub count : Width → List ℕ → ℕ → ℕ
count Byte s at = byte s at
count Word s at = word s at

abbrev pub past_count : Width → ℕ → ℕ
past_count w at = at + width w

-- go on after a field, unless it is refused
abbrev pub and_then : Scan → (ℕ → Scan) → Scan
and_then (Next at) f = f at
and_then (Bad n p) f = Bad n p

-- n fields
unfoldable pub times : ℕ → (ℕ → Scan) → ℕ → Scan
times zero f at = Next at
times (suc n) f at = and_then (f at) (times n f)

-- a string: cut where its length byte is missing, or where its bytes pass the end
unfoldable pub scan_string : List ℕ → ℕ → ℕ → Scan
scan_string s end at =
    cond (ltb at end) (cond (leb (byte s at) (end - (at + 1))) (Next (at + 1 + byte s at)) (Bad 1 at)) (Bad 1 at)

-- a string of a form, else the number
unfoldable pub scan_formed : (List ℕ → Bool) → ℕ → List ℕ → ℕ → ℕ → Scan
scan_formed form number s end at = and_then (scan_string s end at) (λ next. cond (form (text s at)) (Next next) (Bad number at))

abbrev pub scan_path : List ℕ → ℕ → ℕ → Scan
scan_path = scan_formed is_path 4

abbrev pub scan_name : List ℕ → ℕ → ℕ → Scan
scan_name = scan_formed is_identifier 5

-- a name, or no alias: a length 0
unfoldable pub scan_alias : List ℕ → ℕ → ℕ → Scan
scan_alias s end at = cond (ltb at end && eqb (byte s at) 0) (Next (at + 1)) (scan_name s end at)

-- the fields that stand in counted lists: folders' paths, segments, a use's elements, remappings
unfoldable pub scan_field : Field → List ℕ → ℕ → ℕ → Scan
scan_field Path s end at = scan_path s end at
scan_field Name s end at = scan_name s end at
scan_field Element s end at = and_then (scan_name s end at) (scan_alias s end)
scan_field Remapping s end at = and_then (scan_path s end at) (λ name. and_then (scan_string s end name) (scan_path s end))

-- a count of a width, between two limits
unfoldable pub scan_count : Width → ℕ → ℕ → List ℕ → ℕ → ℕ → Scan
scan_count w low high s end at =
    cond (leb (past_count w at) end) (cond (leb low (count w s at) && leb (count w s at) high) (Next (past_count w at)) (Bad 3 at)) (Bad 1 at)

-- a count up to a limit, and as many fields
unfoldable pub scan_list : Width → Field → ℕ → List ℕ → ℕ → ℕ → Scan
scan_list w field limit s end at = and_then (scan_count w 0 limit s end at) (times (count w s at) (scan_field field s end))

-- a use's fields
unfoldable pub scan_use : List ℕ → ℕ → ℕ → Scan
scan_use s end at = and_then (scan_list Byte Name segment_limit s end at) (scan_list Byte Element element_limit s end)

-- a 2-byte length: where what it counts ends
unfoldable pub scan_length : List ℕ → ℕ → ℕ → Scan
scan_length s end at =
    cond (leb (at + 2) end) (cond (leb (word s at) (end - (at + 2))) (Next (at + 2 + word s at)) (Bad 1 at)) (Bad 1 at)

-- a byte up to a limit, else 6
unfoldable pub scan_mark : ℕ → ℕ → List ℕ → ℕ → ℕ → Scan
scan_mark low high s end at =
    cond (ltb at end) (cond (leb low (byte s at) && leb (byte s at) high) (Next (at + 1)) (Bad 6 at)) (Bad 1 at)

-- how many uses there are after the item at `at`
abbrev pub uses_after : List ℕ → ℕ → ℕ → ℕ
uses_after s at uses = cond (eqb (byte s (at + 2)) use_kind) (uses + 1) uses

-- an item's length, kind, visibility, and the limits on items and uses; `count` items and `uses` uses stand before it. The
-- answer is where the item ends
unfoldable pub scan_head : List ℕ → ℕ → ℕ → ℕ → ℕ → Scan
scan_head s end at count uses =
    and_then (scan_length s end at) (λ next.
    and_then (scan_mark 1 6 s next (at + 2)) (λ visibility.
    and_then (scan_mark 0 1 s next visibility) (λ _.
    cond (ltb count item_limit && leb (uses_after s at uses) (most_uses (version_of s))) (Next next) (Bad 3 at))))

-- what follows the visibility of an item that is no module, to the item's end
unfoldable pub scan_body : List ℕ → ℕ → ℕ → Scan
scan_body s end at =
    cond (eqb (byte s (at + 2)) ignored_kind) (Next (at + 4))
    (cond (eqb (byte s (at + 2)) use_kind) (scan_use s end (at + 4)) (scan_name s end (at + 4)))

-- no bytes are left over
unfoldable pub scan_end : ℕ → ℕ → Scan
scan_end end at = cond (eqb at end) (Next at) (Bad 1 at)

-- A WALK OVER ITEMS counts them and the uses among them, all over the bundle.
abbrev pub walk_on : Scan → (ℕ → Walk) → Walk
walk_on (Next at) f = f at
walk_on (Bad n p) f = Fault n p

abbrev pub walk_then : Walk → (ℕ → ℕ → ℕ → Walk) → Walk
walk_then (Past at count uses) f = f at count uses
walk_then (Fault n p) f = Fault n p

-- one item; `in_module` walks a module after its head
unfoldable pub scan_item_with : (ℕ → ℕ → ℕ → ℕ → Walk) → List ℕ → ℕ → ℕ → ℕ → ℕ → Walk
scan_item_with in_module s end at count uses =
    walk_on (scan_head s end at count uses) (λ next.
    let nested = in_module next at count uses in
    let other = walk_on (and_then (scan_body s next at) (scan_end next)) (λ past. Past past (count + 1) (uses_after s at uses)) in
    cond (eqb (byte s (at + 2)) module_kind) nested other)

-- items to the end. The first number bounds how many there are
unfoldable pub siblings : ℕ → (ℕ → ℕ → ℕ → Walk) → ℕ → ℕ → ℕ → ℕ → Walk
siblings zero one end at count uses = Past at count uses
siblings (suc k) one end at count uses =
    let more = walk_then (one at count uses) (siblings k one end) in
    cond (ltb at end) more (Past at count uses)

-- a module: its depth's limit, its name, its items to its end. The first number is how deep modules may still nest
unfoldable pub scan_module : ℕ → List ℕ → ℕ → ℕ → ℕ → ℕ → Walk
scan_module zero s end at count uses = Fault 3 at
scan_module (suc depth) s end at count uses =
    walk_on (scan_name s end (at + 4)) (λ inner.
    siblings (end - inner) (scan_item_with (scan_module depth s) s end) end inner (count + 1) uses)

abbrev pub scan_item : ℕ → List ℕ → ℕ → ℕ → ℕ → ℕ → Walk
scan_item depth s = scan_item_with (scan_module depth s) s

abbrev pub scan_items : ℕ → List ℕ → ℕ → ℕ → ℕ → ℕ → Walk
scan_items depth s end at count uses = siblings (end - at) (scan_item depth s end) end at count uses

-- path, 2-byte item length, items
unfoldable pub scan_file : List ℕ → ℕ → ℕ → ℕ → ℕ → Walk
scan_file s end at count uses =
    walk_on (scan_path s end at) (λ length.
    walk_on (scan_length s end length) (λ next. scan_items depth_limit s next (length + 2) count uses))

unfoldable pub scan_files : ℕ → List ℕ → ℕ → ℕ → ℕ → ℕ → Walk
scan_files zero s end at count uses = Past at count uses
scan_files (suc n) s end at count uses = walk_then (scan_file s end at count uses) (scan_files n s end)

-- under 3 bytes; the version; the length
unfoldable pub scan_header : List ℕ → Scan
scan_header s =
    cond (ltb (length s) header) (Bad 1 0)
    (cond (defined (version_of s))
    (cond (ltb (length s - header) (word s 1)) (Bad 1 1)
    (cond (ltb (word s 1) (length s - header)) (Bad 1 (header + word s 1)) (Next header)))
    (Bad 2 0))
