-- The arguments of a tree call as bytes: a name, and a use in the form of a bundle's item. Assumes nothing.
use Rattle.std.specs.Prelude.{ℕ, zero, suc, pred, ◌+◌, Bool, true, false, cond, ◌&&◌, ◌||◌, List, [], ◌∷◌, eqb, ltb, leb, get_or, length, take, drop}
use Rattle.names.specs.declared.Name.{Name}
use Rattle.names.specs.Packed.{packed}
use Rattle.names.specs.Identifier.{is_identifier}
use Rattle.names.specs.Keywords.{is_crate, is_main}
use Rattle.scope_tree.specs.Step.{Elem, Call, enter, exit, alias, enum, function, use', get_alias, get_function, bad}

-- a string is one length byte, then its bytes; past the end there is none
unfoldable pub string : List ℕ → ℕ → List ℕ
string s at = take (get_or s at 0) (drop (at + 1) s)

-- the place after the string at `at`
abbrev pub after_string : List ℕ → ℕ → ℕ
after_string s at = at + 1 + get_or s at 0

-- the place after n strings
unfoldable pub after_strings : List ℕ → ℕ → ℕ → ℕ
after_strings s zero at = at
after_strings s (suc n) at = after_strings s n (after_string s at)

-- n names
unfoldable pub names_from : List ℕ → ℕ → ℕ → List Name
names_from s zero at = []
names_from s (suc n) at = packed (string s at) ∷ names_from s n (after_string s at)

-- an element's local name: its alias, or its name where the alias has length 0
unfoldable pub local_name : List ℕ → ℕ → Name
local_name s at = cond (eqb (get_or s (after_string s at) 0) 0) (packed (string s at)) (packed (string s (after_string s at)))

-- the place after an element, a name and an alias
abbrev pub after_element : List ℕ → ℕ → ℕ
after_element s at = after_string s (after_string s at)

abbrev pub element_at : List ℕ → ℕ → Elem
element_at s at = record { name = packed (string s at); local = local_name s at; as_main = is_main (string s (after_string s at)) }

unfoldable pub elements_from : List ℕ → ℕ → ℕ → List Elem
elements_from s zero at = []
elements_from s (suc n) at = element_at s at ∷ elements_from s n (after_element s at)

-- FAULTS: 0 for none

-- the first fault of two
abbrev pub or_else : ℕ → ℕ → ℕ
or_else a b = cond (eqb a 0) b a

-- a string: 1 where it passes the end, then 5 where it is no identifier. An optional one may be empty.
unfoldable pub string_fault : Bool → List ℕ → ℕ → ℕ
string_fault optional s at =
    cond (ltb at (length s))
    (cond (leb (after_string s at) (length s)) (cond ((optional && eqb (get_or s at 0) 0) || is_identifier (string s at)) 0 5) 1)
    1

unfoldable pub names_fault : List ℕ → ℕ → ℕ → ℕ
names_fault s zero at = 0
names_fault s (suc n) at = or_else (string_fault false s at) (names_fault s n (after_string s at))

unfoldable pub elements_fault : List ℕ → ℕ → ℕ → ℕ
elements_fault s zero at = 0
elements_fault s (suc n) at =
    or_else (string_fault false s at) (or_else (string_fault true s (after_string s at)) (elements_fault s n (after_element s at)))

-- the place after n elements
unfoldable pub after_elements : List ℕ → ℕ → ℕ → ℕ
after_elements s zero at = at
after_elements s (suc n) at = after_elements s n (after_element s at)

-- the element count at p: 1 where it is missing, 3 where it is over 32; then the elements; then 1 for what is left over
unfoldable pub rest_fault : List ℕ → ℕ → ℕ
rest_fault s p =
    cond (ltb p (length s))
    (cond (ltb 32 (get_or s p 0)) 3
    (or_else (elements_fault s (get_or s p 0) (p + 1)) (cond (ltb (after_elements s (get_or s p 0) (p + 1)) (length s)) 1 0)))
    1

-- a use, in the bundle's order of fields: the segment count (1, 3), the segments, the rest
unfoldable pub use_fault : List ℕ → ℕ
use_fault s =
    cond (eqb (length s) 0) 1
    (cond (ltb 17 (get_or s 0 0)) 3 (or_else (names_fault s (get_or s 0 0) 1) (rest_fault s (after_strings s (get_or s 0 0) 1))))

-- CALLS

-- what a caller hands over
pub data Request : Type 0 where
  enters : List ℕ → Bool → ℕ → Request
  exits : Request
  inserts_alias : List ℕ → Bool → ℕ → Request
  inserts_enum : List ℕ → Bool → ℕ → Request
  inserts_function : List ℕ → Bool → ℕ → Request
  resolves_use : List ℕ → Bool → Request
  gets_alias : List ℕ → Request
  gets_function : List ℕ → Request

-- a name's form comes before the call's own numbers
abbrev pub named : List ℕ → (Name → Call) → Call
named s f = cond (is_identifier s) (f (packed s)) (bad 5)

-- whether the path is led by `crate`
abbrev pub led_by_crate : List ℕ → Bool
led_by_crate s = cond (eqb (get_or s 0 0) 0) false (is_crate (string s 1))

-- the use that the bytes are
unfoldable pub use_call : List ℕ → Bool → Call
use_call s v =
    use' (led_by_crate s) (names_from s (pred (get_or s 0 0)) (after_string s 1)) v
    (elements_from s (get_or s (after_strings s (get_or s 0 0) 1) 0) (after_strings s (get_or s 0 0) 1 + 1))

unfoldable pub call_of : Request → Call
call_of (enters s v m) = named s (λ n. enter n v m)
call_of exits = exit
call_of (inserts_alias s v m) = named s (λ n. alias n v m)
call_of (inserts_enum s v m) = named s (λ n. enum n v m)
call_of (inserts_function s v m) = named s (λ n. function n v m)
call_of (resolves_use s v) = cond (eqb (use_fault s) 0) (use_call s v) (bad (use_fault s))
call_of (gets_alias s) = named s get_alias
call_of (gets_function s) = named s get_function

unfoldable pub calls_of : List Request → List Call
calls_of [] = []
calls_of (q ∷ qs) = call_of q ∷ calls_of qs
