-- The corner cases on trees, as one table: calls, and the answers of the definition over the register. Assumes nothing.
use Rattle.std.specs.Prelude.{ℕ, ◌≡◌, refl, Bool, true, false, List, [], ◌∷◌, ◌++◌, length}
use Prim.Native.String.{String}
use Rattle.names.specs.Bytes.{ascii, same, all}
use Rattle.names.specs.Keywords.{is_crate, is_main}
use Rattle.names.specs.Identifier.{letter, digit, class, is_identifier}
use Rattle.names.specs.Packed.{word, packed, same_name}
use Rattle.scope_tree.specs.Step.{Answer, ok, marked, refused, shared, any_main, nav, element, stage, step, run}
use Rattle.scope_tree.specs.Register.{append, find, whole, names, registered}
use Rattle.scope_tree.specs.Form.{Request, enters, exits, inserts_alias, inserts_enum, inserts_function, resolves_use, gets_function, string, after_strings, names_from, local_name, elements_from, string_fault, names_fault, elements_fault, after_elements, rest_fault, use_fault, use_call, call_of, calls_of}

-- a string of the bundle's form
unfoldable pub text : String → List ℕ
text s = length (ascii s) ∷ ascii s

unfoldable pub texts : List String → List ℕ
texts [] = []
texts (s ∷ l) = text s ++ texts l

-- an element, its alias empty where there is none
pub record Element : Type 0 where
  pub name : String
  pub alias : String

abbrev pub plain : String → Element
plain s = record { name = s; alias = "" }

abbrev pub renamed : String → String → Element
renamed s a = record { name = s; alias = a }

unfoldable pub elements : List Element → List ℕ
elements [] = []
elements (e ∷ l) = text e.name ++ text e.alias ++ elements l

-- a public use
unfoldable pub uses : List String → List Element → Request
uses p es = resolves_use (length p ∷ texts p ++ length es ∷ elements es) true

unfoldable pub module_in : String → Bool → ℕ → Request
module_in s v m = enters (ascii s) v m

unfoldable pub fun : String → Bool → ℕ → Request
fun s v m = inserts_function (ascii s) v m

unfoldable pub typ : String → Bool → ℕ → Request
typ s v m = inserts_alias (ascii s) v m

unfoldable pub enu : String → Bool → ℕ → Request
enu s v m = inserts_enum (ascii s) v m

unfoldable pub get : String → Request
get s = gets_function (ascii s)

pub record Case : Type 0 where
  pub calls : List Request
  pub told : List Answer

unfoldable pub table : List Case
table =
    -- C9: importer a::b may pass private c in crate::a::c, but not private d in crate::a::c::d
    record {
      calls = module_in "a" false 10 ∷ module_in "c" false 11 ∷ fun "f" true 12 ∷ module_in "d" false 13 ∷ fun "g" true 14 ∷ exits ∷ exits ∷ module_in "b" false 15
          ∷ uses ("crate" ∷ "a" ∷ "c" ∷ []) (plain "f" ∷ []) ∷ uses ("crate" ∷ "a" ∷ "c" ∷ "d" ∷ []) (plain "g" ∷ []) ∷ [];
      told = ok ∷ ok ∷ ok ∷ ok ∷ ok ∷ ok ∷ ok ∷ ok ∷ ok ∷ refused 42 ∷ [];
    }
    -- C10: an empty use list on a valid path changes nothing and is accepted; 41, 40 and 50 beside it
    ∷ record {
      calls = module_in "a" false 10 ∷ exits ∷ uses ("crate" ∷ "a" ∷ []) [] ∷ uses ("crate" ∷ "b" ∷ []) [] ∷ uses ("a" ∷ []) [] ∷ uses [] [] ∷ exits ∷ [];
      told = ok ∷ ok ∷ ok ∷ refused 41 ∷ refused 40 ∷ refused 40 ∷ refused 50 ∷ [];
    }
    -- C11: one success is enough: the type f clashes, the function f is private, the module f is taken; the second time all three fail, and the clash is told
    ∷ record {
      calls = typ "f" true 9 ∷ module_in "a" true 10 ∷ enu "f" true 11 ∷ fun "f" false 12 ∷ module_in "f" true 13 ∷ exits ∷ exits ∷ uses ("crate" ∷ "a" ∷ []) (plain "f" ∷ [])
          ∷ uses ("crate" ∷ "a" ∷ []) (plain "f" ∷ []) ∷ get "f" ∷ module_in "f" true 14 ∷ typ "f" true 15 ∷ [];
      told = ok ∷ ok ∷ ok ∷ ok ∷ ok ∷ ok ∷ ok ∷ ok ∷ refused 45 ∷ refused 43 ∷ refused 47 ∷ refused 48 ∷ [];
    }
    -- C12: `as main` anywhere in a list wins over a clash in an earlier element, and a missing module over both; `main` without an alias is an element
    ∷ record {
      calls = fun "f" true 9 ∷ module_in "a" true 10 ∷ fun "f" true 12 ∷ fun "main" true 13 ∷ exits ∷ uses ("crate" ∷ "a" ∷ []) (plain "f" ∷ renamed "f" "main" ∷ [])
          ∷ uses ("crate" ∷ "b" ∷ []) (renamed "f" "main" ∷ []) ∷ uses ("crate" ∷ "a" ∷ []) (plain "f" ∷ []) ∷ uses ("crate" ∷ "a" ∷ []) (plain "main" ∷ []) ∷ get "main" ∷ [];
      told = ok ∷ ok ∷ ok ∷ ok ∷ ok ∷ refused 46 ∷ refused 41 ∷ refused 45 ∷ ok ∷ marked 13 ∷ [];
    }
    -- lookups do not see what earlier elements of the use added, clashes do; a refusal leaves nothing behind
    ∷ record {
      calls = module_in "a" true 10 ∷ fun "f" true 12 ∷ exits ∷ uses ("crate" ∷ "a" ∷ []) (renamed "f" "g" ∷ renamed "g" "h" ∷ []) ∷ get "g" ∷ uses ("crate" ∷ "a" ∷ []) (plain "f" ∷ plain "f" ∷ []) ∷ get "f" ∷ [];
      told = ok ∷ ok ∷ ok ∷ refused 43 ∷ refused 43 ∷ refused 45 ∷ refused 43 ∷ [];
    }
    -- an open module may be imported; the copy's entries trace to the originals
    ∷ record {
      calls = module_in "a" true 10 ∷ fun "f" true 11 ∷ uses ("crate" ∷ []) (renamed "a" "b" ∷ []) ∷ uses ("crate" ∷ "a" ∷ "b" ∷ []) (renamed "f" "h" ∷ []) ∷ get "h" ∷ [];
      told = ok ∷ ok ∷ ok ∷ ok ∷ marked 11 ∷ [];
    }
    -- it shows the module as it was then: later entries do not show, nor does the copy itself
    ∷ record {
      calls = module_in "a" true 10 ∷ uses ("crate" ∷ []) (renamed "a" "b" ∷ []) ∷ fun "g" true 12 ∷ uses ("crate" ∷ "a" ∷ []) (renamed "g" "k" ∷ [])
          ∷ uses ("crate" ∷ "a" ∷ "b" ∷ []) (renamed "g" "m" ∷ []) ∷ uses ("crate" ∷ "a" ∷ "b" ∷ "b" ∷ []) [] ∷ [];
      told = ok ∷ ok ∷ ok ∷ ok ∷ refused 43 ∷ refused 41 ∷ [];
    }
    -- arguments come first: names by 5, counts by 3, a cut form by 1
    ∷ record {
      calls = module_in "1a" true 10 ∷ fun "" true 11 ∷ get "a-b" ∷ resolves_use [] true ∷ resolves_use (18 ∷ []) true ∷ resolves_use (0 ∷ 33 ∷ []) true ∷ resolves_use (1 ∷ 2 ∷ 97 ∷ []) true
          ∷ resolves_use (1 ∷ 1 ∷ 49 ∷ []) true ∷ resolves_use (0 ∷ 0 ∷ 0 ∷ []) true ∷ [];
      told = refused 5 ∷ refused 5 ∷ refused 5 ∷ refused 1 ∷ refused 3 ∷ refused 3 ∷ refused 1 ∷ refused 5 ∷ refused 1 ∷ [];
    }
    ∷ []

unfoldable pub answers : List Case → List (List Answer)
answers [] = []
answers (c ∷ cs) = (registered (calls_of c.calls)).1 ∷ answers cs

unfoldable pub expected : List Case → List (List Answer)
expected [] = []
expected (c ∷ cs) = c.told ∷ expected cs

-- THE THEOREM: every row's answers are the definition's
pub corner_cases : answers table ≡ expected table
unfolding text texts elements uses module_in fun typ enu get table answers expected ascii same all is_crate is_main letter digit class is_identifier word packed same_name shared any_main nav element stage step run append find whole names string after_strings names_from local_name elements_from string_fault names_fault elements_fault after_elements rest_fault use_fault use_call call_of calls_of
corner_cases = refl
