-- The numbers 1, 3 and 5 of a tree call's arguments, exactly when: the first field in byte order that isn't in form. Assumes nothing.
use Rattle.std.specs.Prelude.{ℕ, zero, suc, ◌+◌, ◌≡◌, refl, Bool, true, false, cond, ◌↔◌, List, [], ◌∷◌, ◌++◌, eqb, ltb, length, get_or}
use Rattle.std.proofs.Common.{arith, ap, sym, ◌∙◌}
use borrow.Author.Tests.{eqb-true, eq-eqb, ne_eqb}
use Rattle.names.specs.declared.Name.{Name}
use Rattle.names.specs.Packed.{packed}
use Rattle.names.specs.Identifier.{is_identifier}
use Rattle.scope_tree.specs.Step.{Call, bad}
use Rattle.scope_tree.specs.Form.{after_string, after_strings, after_element, or_else, string_fault, names_fault, elements_fault, after_elements, rest_fault, use_fault, resolves_use, named, use_call, call_of}

-- THE FIELDS OF A USE in byte order, each with its own number, or 0: cut, count, form
unfoldable pub segment_fields : List ℕ → ℕ → ℕ → List ℕ
segment_fields s zero p = []
segment_fields s (suc n) p = string_fault false s p ∷ segment_fields s n (after_string s p)

unfoldable pub element_fields : List ℕ → ℕ → ℕ → List ℕ
element_fields s zero p = []
element_fields s (suc n) p = string_fault false s p ∷ string_fault true s (after_string s p) ∷ element_fields s n (after_element s p)

-- a count: 1 where it is missing, 3 where it is over its limit
abbrev pub count_field : List ℕ → ℕ → ℕ → ℕ
count_field s p limit = cond (ltb p (length s)) (cond (ltb limit (get_or s p 0)) 3 0) 1

-- bytes left over
abbrev pub end_field : List ℕ → ℕ → ℕ
end_field s p = cond (ltb p (length s)) 1 0

abbrev pub elements_place : List ℕ → ℕ
elements_place s = after_strings s (get_or s 0 0) 1

abbrev pub use_fields : List ℕ → List ℕ
use_fields s =
    count_field s 0 17
    ∷ (segment_fields s (get_or s 0 0) 1
    ++ (count_field s (elements_place s) 32
    ∷ (element_fields s (get_or s (elements_place s) 0) (elements_place s + 1)
    ++ (end_field s (after_elements s (get_or s (elements_place s) 0) (elements_place s + 1)) ∷ []))))

-- the first number of a list that isn't 0: it is there, and all before it are 0
abbrev pub Zeros : List ℕ → Type 0
Zeros [] = Unit {0}
Zeros (a ∷ l) = (a ≡ 0) × Zeros l

pub record First (l : List ℕ) (n : ℕ) : Type 0 where
  pub front : List ℕ
  pub back : List ℕ
  pub split : l ≡ front ++ (n ∷ back)
  pub before : Zeros front

-- THE SCAN IS THE FIRST OF THEM
unfoldable first : List ℕ → ℕ
first [] = 0
first (a ∷ l) = or_else a (first l)

or_assoc : (a b c : ℕ) → or_else (or_else a b) c ≡ or_else a (or_else b c)
or_assoc a b c = go (eqb a 0) refl
  where
    go : (t : Bool) → eqb a 0 ≡ t → cond (eqb (cond t b a) 0) c (cond t b a) ≡ cond t (cond (eqb b 0) c b) a
    go true q = refl
    go false q = rw q

first-append : (l m : List ℕ) → first (l ++ m) ≡ or_else (first l) (first m)
unfolding first
first-append [] m = refl
first-append (a ∷ l) m = ap (or_else a) (first-append l m) ∙ sym (or_assoc a (first l) (first m))

first-segments : (s : List ℕ) (n p : ℕ) → names_fault s n p ≡ first (segment_fields s n p)
unfolding first segment_fields names_fault
first-segments s zero p = refl
first-segments s (suc n) p = ap (or_else (string_fault false s p)) (first-segments s n (after_string s p))

first-elements : (s : List ℕ) (n p : ℕ) → elements_fault s n p ≡ first (element_fields s n p)
unfolding first element_fields elements_fault
first-elements s zero p = refl
first-elements s (suc n) p = ap (λ (k : ℕ). or_else (string_fault false s p) (or_else (string_fault true s (after_string s p)) k)) (first-elements s n (after_element s p))

or-zero : (a : ℕ) → or_else a 0 ≡ a
or-zero a = go (eqb a 0) refl
  where
    go : (t : Bool) → eqb a 0 ≡ t → cond t 0 a ≡ a
    go true q = sym (eqb-true a 0 q)
    go false q = refl

counted : (t u : Bool) (k : ℕ) → cond t (cond u 3 k) 1 ≡ or_else (cond t (cond u 3 0) 1) k
counted true true k = refl
counted true false k = refl
counted false u k = refl

rest-first : (s : List ℕ) (p : ℕ)
    → rest_fault s p ≡ first (count_field s p 32 ∷ (element_fields s (get_or s p 0) (p + 1) ++ (end_field s (after_elements s (get_or s p 0) (p + 1)) ∷ [])))
unfolding first rest_fault
rest-first s p =
    counted (ltb p (length s)) (ltb 32 (get_or s p 0)) _
    ∙ ap (or_else (count_field s p 32))
    (ap (λ (k : ℕ). or_else k (end_field s (after_elements s (get_or s p 0) (p + 1)))) (first-elements s (get_or s p 0) (p + 1))
    ∙ ap (or_else (first (element_fields s (get_or s p 0) (p + 1)))) (sym (or-zero (end_field s (after_elements s (get_or s p 0) (p + 1)))))
    ∙ sym (first-append (element_fields s (get_or s p 0) (p + 1)) (end_field s (after_elements s (get_or s p 0) (p + 1)) ∷ [])))

no_bytes : (s : List ℕ) (a : ℕ) → cond (eqb (length s) 0) 1 a ≡ cond (ltb 0 (length s)) a 1
no_bytes [] a = refl
no_bytes (b ∷ s) a = rw (ne_eqb (length (b ∷ s)) 0 (λ e. omega arith), borrow.Author.Tests.lt-ltb 0 (length (b ∷ s)) (omega arith))

use_first : (s : List ℕ) → use_fault s ≡ first (use_fields s)
unfolding first use_fault
use_first s =
    no_bytes s _
    ∙ counted (ltb 0 (length s)) (ltb 17 (get_or s 0 0)) _
    ∙ ap (or_else (count_field s 0 17))
    (ap (λ (k : ℕ). or_else k (rest_fault s (elements_place s))) (first-segments s (get_or s 0 0) 1)
    ∙ ap (or_else (first (segment_fields s (get_or s 0 0) 1))) (rest-first s (elements_place s))
    ∙ sym (first-append (segment_fields s (get_or s 0 0) 1) _))

first-is : (l : List ℕ) (n : ℕ) → (n ≡ 0 → ⊥) → first l ≡ n → First l n
unfolding first
first-is [] n ne e = absurd (ne (sym e))
first-is (a ∷ l) n ne e = go (eqb a 0) refl e (first-is l n ne)
  where
    go : (t : Bool) → eqb a 0 ≡ t → cond t (first l) a ≡ n → (first l ≡ n → First l n) → First (a ∷ l) n
    go true q e ih = more (ih e)
      where
        more : First l n → First (a ∷ l) n
        more w = record { front = a ∷ w.front; back = w.back; split = ap (λ (m : List ℕ). a ∷ m) w.split; before = (eqb-true a 0 q, w.before) }
    go false q e ih = record { front = []; back = l; split = ap (λ (m : ℕ). m ∷ l) e; before = tt }

is-first : (front : List ℕ) (n : ℕ) (back : List ℕ) → (n ≡ 0 → ⊥) → Zeros front → first (front ++ (n ∷ back)) ≡ n
unfolding first
is-first [] n back ne z = rw (ne_eqb n 0 ne)
is-first (a ∷ front) n back ne z = rw (eq-eqb a 0 z.0) (is-first front n back ne z.1)

-- THE THEOREM: the arguments of a use are refused n exactly when the first field in byte order that isn't in form has that number
pub bad_use : (s : List ℕ) (v : Bool) (n : ℕ) → (n ≡ 0 → ⊥) → (call_of (resolves_use s v) ≡ bad n) ↔ First (use_fields s) n
unfolding call_of use_call
bad_use s v n ne = (λ e. first-is (use_fields s) n ne (sym (use_first s) ∙ there (eqb (use_fault s) 0) e), λ w. here (use_first s ∙ ap first w.split ∙ is-first w.front n w.back ne w.before))
  where
    there : (t : Bool) → cond t (use_call s v) (bad (use_fault s)) ≡ bad n → use_fault s ≡ n
    there true e = let z : ◌≡◌ {A = ℕ} 0 1 = cc in absurd (omega arith)
    there false e = cc

    here : use_fault s ≡ n → cond (eqb (use_fault s) 0) (use_call s v) (bad (use_fault s)) ≡ bad n
    here e = rw (e, ne_eqb n 0 ne)

-- a name's number is 5, exactly where it is no identifier
pub bad_name : (s : List ℕ) (f : Name → Call) (n : ℕ) → ((m : Name) → f m ≡ bad n → ⊥) → (named s f ≡ bad n) ↔ ((is_identifier s ≡ false) × (n ≡ 5))
bad_name s f n good = (λ e. go (is_identifier s) refl e, λ w. rw (w.0, w.1))
  where
    go : (t : Bool) → is_identifier s ≡ t → cond t (f (packed s)) (bad 5) ≡ bad n → (is_identifier s ≡ false) × (n ≡ 5)
    go true q e = absurd (good (packed s) e)
    go false q e = (q, cc)
