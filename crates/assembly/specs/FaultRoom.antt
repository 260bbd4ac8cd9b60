-- The faults of step 5 as the code tells them: refusals, and how many there can be. Assumes nothing.
use Rattle.std.specs.Prelude.{ℕ, suc, ◌+◌, ◌≤◌, ◌<◌, true, false, Bool, cond, ◌≡◌, List, [], ◌∷◌, ◌++◌, map, length, drop, get_or}
use Rattle.std.specs.List.{flat_map}
use Rattle.std.proofs.Common.{arith, add-one, sym, ap, subst, ◌∙◌, length-append, append_assoc, append-nil, drop-cons}
use Rattle.std.proofs.lemmas.List.{length-map, map-append}
use Rattle.refusal.specs.declared.Cause.TheVariants.{NoMain, ForeignEnum}
use Rattle.refusal.specs.declared.Refusal.{Refusal}
use Rattle.refusal.specs.Numbers.{refusal}
use Rattle.bundle.specs.Bundle.{Bundle}
use Rattle.bundle.specs.Limits.{item_limit}
use Rattle.assembly.specs.Assemble.{items_of, has_main}

-- every item an enum, and no main
abbrev pub fault_limit : ℕ
fault_limit = suc item_limit

-- 28 at a mark, and 27
abbrev pub foreign : ℕ → Refusal
foreign mark = refusal ForeignEnum mark

abbrev pub no_main : Refusal
no_main = refusal NoMain 0

-- 28 is pushed for each of these marks
abbrev pub Told : List Refusal → List Refusal → List ℕ → Type 0
Told before after marks = after ≡ before ++ map foreign marks

-- 27 where unit 0 has no main
unfoldable pub main_told : Bundle → List Refusal
main_told b = cond (has_main (items_of b 0)) [] (no_main ∷ [])

pub main_few : (b : Bundle) → length (main_told b) ≤ 1
unfolding main_told
main_few b = go (has_main (items_of b 0))
  where
    go : (t : Bool) → length (cond t [] (no_main ∷ [])) ≤ 1
    go true = omega arith
    go false = omega arith

pub told-none : (l : List Refusal) (marks : List ℕ) → marks ≡ [] → Told l l marks
told-none l marks e = rw e (sym (append-nil l))

-- ONE AFTER THE OTHER: the marks of some things were told, and those of the things `left` come to the rest of `all`
module _ {A : Type 0} (of : A → List ℕ) (all : List Refusal) where
  pub record Telling (told : List Refusal) (left : List A) : Type 0 where
    pub room : length all ≤ fault_limit
    pub rest : told ++ map foreign (flat_map of left) ≡ all

module _ {A : Type 0} {of : A → List ℕ} {all told : List Refusal} where
  module _ {a : A} {left : List A} (t : Telling of all told (a ∷ left)) where
    ahead : told ++ map foreign (flat_map of (a ∷ left)) ≡ (told ++ map foreign (of a)) ++ map foreign (flat_map of left)
    ahead = ap (λ l. told ++ l) (map-append foreign (of a) (flat_map of left)) ∙ sym (append_assoc told (map foreign (of a)) (map foreign (flat_map of left)))

    pub telling-room : length told + length (of a) ≤ fault_limit
    telling-room =
        let r = t.room in
        let n = ap length (sym t.rest ∙ ahead) in
        omega (arith, length-append (told ++ map foreign (of a)) (map foreign (flat_map of left)), length-append told (map foreign (of a)), length-map (of a) foreign)

    pub telling-next : (next : List Refusal) → Told told next (of a) → Telling of all next left
    telling-next next e = record { room = t.room; rest = rw e (sym ahead ∙ t.rest) }

  pub telling-all : (left : List A) → left ≡ [] → Telling of all told left → told ≡ all
  telling-all left e t = let r = rw e at t.rest in sym (append-nil told) ∙ r

pub telling-first : {A : Type 0} (of : A → List ℕ) (told : List Refusal) (left : List A) (marks : List ℕ) → marks ≡ flat_map of left → length told + length marks ≤ fault_limit → Telling of (told ++ map foreign marks) told left
telling-first of told left marks e h = record {
  room = omega (arith, length-append told (map foreign marks), length-map marks foreign);
  rest = ap (λ (l : List ℕ). told ++ map foreign l) (sym e);
}

-- the next of a list
pub telling-at : {of : ℕ → List ℕ} {all told : List Refusal} (l : List ℕ) (i : ℕ) → i < length l → Telling of all told (drop i l) → Telling of all told (get_or l i 0 ∷ drop (i + 1) l)
telling-at {of} {all} {told} l i h t = subst (Telling of all told) (drop-cons l i 0 h ∙ ap (λ (k : ℕ). get_or l i 0 ∷ drop k l) (sym (add-one i))) t
