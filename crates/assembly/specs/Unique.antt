-- An image loses nothing but marks: programs in form with one image are one program. Assumes nothing.
use Rattle.std.specs.Prelude.{ℕ, ◌-◌, ◌/◌, ◌%◌, ◌≡◌, refl}
use Rattle.std.proofs.Common.{arith, sym, ap, ◌∙◌}
use mathlib.Core.List.{List, [], ◌∷◌, ◌++◌, append_assoc}
use Rattle.std.proofs.Math.ListN.{length}
use Rattle.bundle.specs.Bundle.{Text, Head, Items, none, named, use_of, module_of, ignored}
use Rattle.bundle.specs.Encode.{two, string, joined, counted, sized, element, encode_head, items}
use Rattle.bundle.specs.Access.{equal-heads}
use Rattle.bundle.specs.Limits.{use_kind, module_kind}
use Rattle.assembly.specs.Image.{image_bytes, unmarked_head, unmarked}
use Rattle.assembly.specs.ImageForm.{ImageFormed}

-- two lists of one length, each with a rest
append-split : {A : Type 0} (s t r q : List A) → length s ≡ length t → s ++ r ≡ t ++ q → (s ≡ t) × (r ≡ q)
append-split [] [] r q l e = (refl, e)
append-split [] (y ∷ t) r q l e = absurd (omega arith)
append-split (x ∷ s) [] r q l e = absurd (omega arith)
append-split (x ∷ s) (y ∷ t) r q l e =
    let h : x ≡ y = cc in
    let k : s ++ r ≡ t ++ q = cc in
    let z = append-split s t r q (omega arith) k in
    let i : s ≡ t = z.0 in
    (cc, z.1)

sized-split : (s t r q : List ℕ) → sized s ++ r ≡ sized t ++ q → (s ≡ t) × (r ≡ q)
unfolding sized two
sized-split s t r q e =
    let h : length s / 256 ≡ length t / 256 = cc in
    let l : length s % 256 ≡ length t % 256 = cc in
    let k : s ++ r ≡ t ++ q = cc in
    append-split s t r q (omega arith) k

-- what can be told from what follows it
abbrev Splits : {A : Type 0} → (A → List ℕ) → Type 0
Splits {A} f = (a c : A) (r q : List ℕ) → f a ++ r ≡ f c ++ q → (a ≡ c) × (r ≡ q)

string_splits : Splits string
unfolding string
string_splits s t r q e =
    let l : length s ≡ length t = cc in
    let k : s ++ r ≡ t ++ q = cc in
    append-split s t r q l k

element_splits : Splits element
unfolding element
element_splits a c r q e =
    let k : string a.name ++ (string a.alias ++ r) ≡ string c.name ++ (string c.alias ++ q) =
    sym (append_assoc (string a.name) (string a.alias) r) ∙ (e ∙ append_assoc (string c.name) (string c.alias) q) in
    let x = string_splits a.name c.name (string a.alias ++ r) (string c.alias ++ q) k in
    let y = string_splits a.alias c.alias r q x.1 in
    (ap (λ (n : Text). record { name = n; alias = a.alias }) x.0 ∙ ap (λ (n : Text). record { name = c.name; alias = n }) y.0, y.1)

module _ {A : Type 0} (f : A → List ℕ) (s : Splits f) where
  joined-split : (l k : List A) (r q : List ℕ) → length l ≡ length k → joined f l ++ r ≡ joined f k ++ q → (l ≡ k) × (r ≡ q)
  unfolding joined
  joined-split [] [] r q n e = (refl, e)
  joined-split [] (y ∷ k) r q n e = absurd (omega arith)
  joined-split (x ∷ l) [] r q n e = absurd (omega arith)
  joined-split (x ∷ l) (y ∷ k) r q n e =
      let h = s x y (joined f l ++ r) (joined f k ++ q) (sym (append_assoc (f x) (joined f l) r) ∙ (e ∙ append_assoc (f y) (joined f k) q)) in
      let t = joined-split l k r q (omega arith) h.1 in
      let i : x ≡ y = h.0 in
      let j : l ≡ k = t.0 in
      (cc, t.1)

  counted_splits : Splits (counted f)
  unfolding counted
  counted_splits l k r q e =
      let n : length l ≡ length k = cc in
      let j : joined f l ++ r ≡ joined f k ++ q = cc in
      joined-split l k r q n j

-- heads of one encoding differ in their marks at most
head_unique : (h k : Head) → encode_head h ≡ encode_head k → unmarked_head h ≡ unmarked_head k
head_unique h k e =
    let i : h.kind ≡ k.kind = cc in
    let j : h.visibility ≡ k.visibility = cc in
    let t : string h.name ≡ string k.name = cc in
    equal-heads (unmarked_head h) (unmarked_head k) i refl j (string_splits h.name k.name [] [] (ap (λ (l : List ℕ). l ++ []) t)).0

-- two kinds and visibilities, and what follows
record SameHead (k v k' v' : ℕ) (s t r q : List ℕ) : Type 0 where
  kind : k ≡ k'
  visibility : v ≡ v'
  body : s ≡ t
  rest : r ≡ q

same_head : (k v k' v' : ℕ) (s t r q : List ℕ) → sized (k ∷ v ∷ s) ++ r ≡ sized (k' ∷ v' ∷ t) ++ q → SameHead k v k' v' s t r q
same_head k v k' v' s t r q e =
    let z = sized-split (k ∷ v ∷ s) (k' ∷ v' ∷ t) r q e in
    let y : k ∷ v ∷ s ≡ k' ∷ v' ∷ t = z.0 in
    record { kind = cc; visibility = cc; body = cc; rest = z.1 }

nothing-sized : (s r : List ℕ) → [] ≡ sized s ++ r → ⊥
unfolding sized two
nothing-sized s r e = let z : ◌≡◌ {A = ℕ} 0 1 = cc in omega arith

items_unique : (p q : Items) (d c : ℕ) → ImageFormed p d → ImageFormed q c → items p ≡ items q → unmarked p ≡ unmarked q
unfolding items unmarked ImageFormed
items_unique none none d c f g e = refl
items_unique none (named head rest) d c f g e = absurd (nothing-sized _ _ e)
items_unique none (use_of m v segments elements rest) d c f g e = absurd (nothing-sized _ _ e)
items_unique none (module_of m v name inner rest) d c f g e = absurd (nothing-sized _ _ e)
items_unique none (ignored m v rest) d c f g e = absurd g
items_unique (named head rest) (ignored m' v' rest') d c f g e = absurd g
items_unique (use_of m v segments elements rest) (ignored m' v' rest') d c f g e = absurd g
items_unique (module_of m v name inner rest) (ignored m' v' rest') d c f g e = absurd g
items_unique (ignored m v rest) q d c f g e = absurd f
items_unique (named head rest) none d c f g e = absurd (nothing-sized _ _ (sym e))
items_unique (use_of m v segments elements rest) none d c f g e = absurd (nothing-sized _ _ (sym e))
items_unique (module_of m v name inner rest) none d c f g e = absurd (nothing-sized _ _ (sym e))
items_unique (named head rest) (named head' rest') d c f g e =
    let s = sized-split (encode_head head) (encode_head head') (items rest) (items rest') e in
    let h : unmarked_head head ≡ unmarked_head head' = head_unique head head' s.0 in
    let r : unmarked rest ≡ unmarked rest' = items_unique rest rest' d c f.1 g.1 s.1 in
    cc
items_unique (named head rest) (use_of m' v' segments elements rest') d c f g e =
    let h = same_head head.kind head.visibility use_kind v' _ _ _ _ e in absurd (f.0.kind.1.1 h.kind)
items_unique (named head rest) (module_of m' v' name' inner rest') d c f g e =
    let h = same_head head.kind head.visibility module_kind v' _ _ _ _ e in let i = h.kind in let j = f.0.kind.1.0 in absurd (omega arith)
items_unique (use_of m v segments elements rest) (named head' rest') d c f g e =
    let h = same_head use_kind v head'.kind head'.visibility _ _ _ _ e in absurd (g.0.kind.1.1 (sym h.kind))
items_unique (use_of m v segments elements rest) (use_of m' v' segments' elements' rest') d c f g e =
    let h = same_head use_kind v use_kind v' (counted string segments ++ counted element elements) (counted string segments' ++ counted element elements') (items rest) (items rest') e in
    let s = counted_splits string string_splits segments segments' (counted element elements) (counted element elements') h.body in
    let t = counted_splits element element_splits elements elements' [] [] (ap (λ (l : List ℕ). l ++ []) s.1) in
    let j : v ≡ v' = h.visibility in
    let x : segments ≡ segments' = s.0 in
    let y : elements ≡ elements' = t.0 in
    let r : unmarked rest ≡ unmarked rest' = items_unique rest rest' d c f.1.1.1 g.1.1.1 h.rest in
    cc
items_unique (use_of m v segments elements rest) (module_of m' v' name' inner rest') d c f g e =
    let h = same_head use_kind v module_kind v' _ _ _ _ e in let i = h.kind in absurd (omega arith)
items_unique (module_of m v name inner rest) (named head' rest') d c f g e =
    let h = same_head module_kind v head'.kind head'.visibility _ _ _ _ e in let i = h.kind in let j = g.0.kind.1.0 in absurd (omega arith)
items_unique (module_of m v name inner rest) (use_of m' v' segments elements rest') d c f g e =
    let h = same_head module_kind v use_kind v' _ _ _ _ e in let i = h.kind in absurd (omega arith)
items_unique (module_of m v name inner rest) (module_of m' v' name' inner' rest') d c f g e =
    let h = same_head module_kind v module_kind v' (string name ++ items inner) (string name' ++ items inner') (items rest) (items rest') e in
    let s = string_splits name name' (items inner) (items inner') h.body in
    let j : v ≡ v' = h.visibility in
    let x : name ≡ name' = s.0 in
    let y : unmarked inner ≡ unmarked inner' = items_unique inner inner' (d - 1) (c - 1) f.1.1.0.1 g.1.1.0.1 s.1 in
    let r : unmarked rest ≡ unmarked rest' = items_unique rest rest' d c f.1.1.1 g.1.1.1 h.rest in
    cc

pub image_unique : (p q : Items) (d c : ℕ) → ImageFormed p d → ImageFormed q c → image_bytes p ≡ image_bytes q → unmarked p ≡ unmarked q
unfolding image_bytes
image_unique p q d c f g e =
    let k : sized (items p) ≡ sized (items q) = cc in
    items_unique p q d c f g (sized-split (items p) (items q) [] [] (ap (λ (l : List ℕ). l ++ []) k)).0
