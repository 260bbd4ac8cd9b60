-- The reserved words of lexer.rs, in its order. `SIMC_STR` is `simc`. Assumes nothing.
use Rattle.std.specs.Prelude.{ℕ, Bool, List, [], ◌∷◌, ◌≡◌, refl, length}
use Rattle.names.specs.Bytes.{ascii, member, same}

-- the specification's `KEYWORDS`
unfoldable pub keywords : List (List ℕ)
keywords =
    ascii "pub" ∷ ascii "use" ∷ ascii "as" ∷ ascii "fn" ∷ ascii "let" ∷ ascii "type" ∷ ascii "mod"
    ∷ ascii "const" ∷ ascii "match" ∷ ascii "enum" ∷ ascii "crate" ∷ ascii "simc" ∷ ascii "true" ∷ ascii "false" ∷ []

unfoldable pub is_keyword : List ℕ → Bool
is_keyword s = member s keywords

-- the word that leads a path from the package root
unfoldable pub is_crate : List ℕ → Bool
is_crate s = same s (ascii "crate")

-- the name of the entry function
unfoldable pub is_main : List ℕ → Bool
is_main s = same s (ascii "main")

pub fourteen : length keywords ≡ 14
unfolding keywords
fourteen = refl
