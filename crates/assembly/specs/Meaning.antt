-- What `has_main` and `enum_declarations` find, said of the items as a list: a function `main` at the top, and enums at any depth.
-- Assumes nothing.
use Rattle.std.specs.Prelude.{ℕ, suc, ◌≤◌, Bool, true, false, cond, ◌&&◌, ◌||◌, ◌≡◌, refl, eqb}
use Rattle.std.proofs.Common.{arith, ⊎_elim, sym, ap, subst, ◌∙◌, eqb-true}
use mathlib.Core.List.Memᴰ
use mathlib.Core.List.{List, ◌∷◌, Memᴰ}
use Rattle.names.specs.Bytes.{ascii, same, same_refl, same-eq, false_true, and_left, and_right}
use Rattle.bundle.specs.Bundle.{Text, Head, Items, none, named, use_of, module_of, ignored}
use Rattle.assembly.specs.Assemble.{function_kind, enum_kind, enum_declarations, has_main}
use Rattle.assembly.specs.Rewritten.{Heading, declared, imports, opens, skipped, headings}

-- DEPTHS
abbrev depth_of : Heading → ℕ
depth_of (declared d head) = d
depth_of (imports d m v elements) = d
depth_of (opens d m v name) = d
depth_of (skipped d m v) = d

-- a first head, and those after it
at_least : {d : ℕ} {h x : Heading} {l : List Heading} → depth_of x ≡ d → (Memᴰ h l → d ≤ depth_of h) → Memᴰ h (x ∷ l) → d ≤ depth_of h
at_least {h} {x} q f m = ⊎_elim (λ e. let z = ap (λ (y : Heading). depth_of y) e in omega arith) f (Memᴰ.cases_cons m)

deep : (x : Items) (d : ℕ) {h : Heading} → Memᴰ h (headings d x) → d ≤ depth_of h
unfolding headings
deep none d m = absurd (Memᴰ.not-nil m)
deep (named head rest) d m = at_least refl (λ w. deep rest d w) m
deep (use_of i v segments elements rest) d m = at_least refl (λ w. deep rest d w) m
deep (module_of i v name inner rest) d m =
    at_least refl (λ w. ⊎_elim (λ y. let z = deep inner (suc d) y in omega arith) (λ y. deep rest d y) (Memᴰ.append_cases (headings (suc d) inner) w)) m
deep (ignored i v rest) d m = at_least refl (λ w. deep rest d w) m

-- MAIN
-- a function `main` among the items of depth d, where x stands at that depth
pub record MainAt (d : ℕ) (x : Items) : Type 0 where
  pub head : Head
  pub kind : head.kind ≡ function_kind
  pub name : head.name ≡ ascii "main"
  pub there : Memᴰ (declared d head) (headings d x)

-- the same among more items
main-after : {d : ℕ} {x y : Items} → ((h : Head) → Memᴰ (declared d h) (headings d x) → Memᴰ (declared d h) (headings d y)) → MainAt d x → MainAt d y
main-after f t = record { head = t.head; kind = t.kind; name = t.name; there = f t.head t.there }

pub main-sound : (x : Items) (d : ℕ) → has_main x ≡ true → MainAt d x
unfolding has_main headings
main-sound none d e = absurd (false_true e)
main-sound (named head rest) d e = go (eqb head.kind function_kind && same head.name (ascii "main")) refl (main-sound rest d) e
  where
    go : (t : Bool) → (eqb head.kind function_kind && same head.name (ascii "main")) ≡ t → (has_main rest ≡ true → MainAt d rest) → (t || has_main rest) ≡ true → MainAt d (named head rest)
    go true h f q = record {
      head = head;
      kind = eqb-true head.kind function_kind (and_left (eqb head.kind function_kind) (same head.name (ascii "main")) h);
      name = same-eq head.name (ascii "main") (and_right (eqb head.kind function_kind) (same head.name (ascii "main")) h);
      there = Memᴰ.head refl;
    }
    go false h f q = main-after (λ y w. Memᴰ.tail w) (f q)
main-sound (use_of m v segments elements rest) d e = main-after (λ y w. Memᴰ.tail w) (main-sound rest d e)
main-sound (module_of m v name inner rest) d e = main-after (λ y w. Memᴰ.tail (Memᴰ.append_right (headings (suc d) inner) w)) (main-sound rest d e)
main-sound (ignored m v rest) d e = main-after (λ y w. Memᴰ.tail w) (main-sound rest d e)

or_true : (a b : Bool) → b ≡ true → (a || b) ≡ true
or_true true b e = refl
or_true false b e = e

main-is : (k : ℕ) (t : Text) (b : Bool) → k ≡ function_kind → t ≡ ascii "main" → ((eqb k function_kind && same t (ascii "main")) || b) ≡ true
main-is k t b e i = rw (e, i, same_refl (ascii "main"))

pub main-complete : (x : Items) (d : ℕ) (h : Head) → h.kind ≡ function_kind → h.name ≡ ascii "main" → Memᴰ (declared d h) (headings d x) → has_main x ≡ true
unfolding has_main headings
main-complete none d h k n m = absurd (Memᴰ.not-nil m)
main-complete (named head rest) d h k n m =
    ⊎_elim
    (λ e. let i : h ≡ head = cc in ap (λ (y : Head). (eqb y.kind function_kind && same y.name (ascii "main")) || has_main rest) (sym i) ∙ main-is h.kind h.name (has_main rest) k n)
    (λ w. or_true (eqb head.kind function_kind && same head.name (ascii "main")) (has_main rest) (main-complete rest d h k n w)) (Memᴰ.cases_cons m)
main-complete (use_of i v segments elements rest) d h k n m =
    ⊎_elim (λ e. let z : ◌≡◌ {A = ℕ} 0 1 = cc in absurd (omega arith)) (λ w. main-complete rest d h k n w) (Memᴰ.cases_cons m)
main-complete (module_of i v name inner rest) d h k n m =
    ⊎_elim (λ e. let z : ◌≡◌ {A = ℕ} 0 1 = cc in absurd (omega arith))
    (λ w. ⊎_elim (λ u. let z = deep inner (suc d) u in absurd (omega arith)) (λ u. main-complete rest d h k n u) (Memᴰ.append_cases (headings (suc d) inner) w))
    (Memᴰ.cases_cons m)
main-complete (ignored i v rest) d h k n m =
    ⊎_elim (λ e. let z : ◌≡◌ {A = ℕ} 0 1 = cc in absurd (omega arith)) (λ w. main-complete rest d h k n w) (Memᴰ.cases_cons m)

-- ENUMS
-- an enum of a mark, at any depth
pub record EnumAt (d : ℕ) (x : Items) (mark : ℕ) : Type 0 where
  pub depth : ℕ
  pub head : Head
  pub kind : head.kind ≡ enum_kind
  pub is : head.mark ≡ mark
  pub there : Memᴰ (declared depth head) (headings d x)

-- the same among more items
enum-after : {d c mark : ℕ} {x y : Items} → ((e : ℕ) (h : Head) → Memᴰ (declared e h) (headings d x) → Memᴰ (declared e h) (headings c y)) → EnumAt d x mark → EnumAt c y mark
enum-after f t = record { depth = t.depth; head = t.head; kind = t.kind; is = t.is; there = f t.depth t.head t.there }

pub enum-sound : (x : Items) (d mark : ℕ) → Memᴰ mark (enum_declarations x) → EnumAt d x mark
unfolding enum_declarations headings
enum-sound none d n h = absurd (Memᴰ.not-nil h)
enum-sound (named head rest) d n h = go (eqb head.kind enum_kind) refl h (enum-sound rest d n)
  where
    later : EnumAt d rest n → EnumAt d (named head rest) n
    later t = enum-after (λ e y w. Memᴰ.tail w) t

    go : (t : Bool) → eqb head.kind enum_kind ≡ t → Memᴰ n (cond t (head.mark ∷ enum_declarations rest) (enum_declarations rest))
        → (Memᴰ n (enum_declarations rest) → EnumAt d rest n) → EnumAt d (named head rest) n
    go true e w f =
        ⊎_elim (λ q. record { depth = d; head = head; kind = eqb-true head.kind enum_kind e; is = sym q; there = Memᴰ.head refl }) (λ u. later (f u)) (Memᴰ.cases_cons w)
    go false e w f = later (f w)
enum-sound (use_of m v segments elements rest) d n h = enum-after (λ e y w. Memᴰ.tail w) (enum-sound rest d n h)
enum-sound (module_of m v name inner rest) d n h =
    ⊎_elim
    (λ w. enum-after (λ e y u. Memᴰ.tail (Memᴰ.append_left _ u)) (enum-sound inner (suc d) n w))
    (λ w. enum-after (λ e y u. Memᴰ.tail (Memᴰ.append_right (headings (suc d) inner) u)) (enum-sound rest d n w))
    (Memᴰ.append_cases (enum_declarations inner) h)
enum-sound (ignored m v rest) d n h = enum-after (λ e y w. Memᴰ.tail w) (enum-sound rest d n h)

enum_is : (k m : ℕ) (l : List ℕ) → k ≡ enum_kind → Memᴰ m (cond (eqb k enum_kind) (m ∷ l) l)
enum_is k m l e = rw e (Memᴰ.head refl)

pub enum-complete : (x : Items) (d depth : ℕ) (h : Head) → h.kind ≡ enum_kind → Memᴰ (declared depth h) (headings d x) → Memᴰ h.mark (enum_declarations x)
unfolding enum_declarations headings
enum-complete none d c h k m = absurd (Memᴰ.not-nil m)
enum-complete (named head rest) d c h k m =
    ⊎_elim
    (λ e. let i : h ≡ head = cc in subst (λ (y : Head). Memᴰ h.mark (cond (eqb y.kind enum_kind) (y.mark ∷ enum_declarations rest) (enum_declarations rest))) i (enum_is h.kind h.mark (enum_declarations rest) k))
    (λ w. go (eqb head.kind enum_kind) (enum-complete rest d c h k w)) (Memᴰ.cases_cons m)
  where
    go : (s : Bool) → Memᴰ h.mark (enum_declarations rest) → Memᴰ h.mark (cond s (head.mark ∷ enum_declarations rest) (enum_declarations rest))
    go true w = Memᴰ.tail w
    go false w = w
enum-complete (use_of i v segments elements rest) d c h k m =
    ⊎_elim (λ e. let z : ◌≡◌ {A = ℕ} 0 1 = cc in absurd (omega arith)) (λ w. enum-complete rest d c h k w) (Memᴰ.cases_cons m)
enum-complete (module_of i v name inner rest) d c h k m =
    ⊎_elim (λ e. let z : ◌≡◌ {A = ℕ} 0 1 = cc in absurd (omega arith))
    (λ w. ⊎_elim (λ u. Memᴰ.append_left _ (enum-complete inner (suc d) c h k u)) (λ u. Memᴰ.append_right (enum_declarations inner) (enum-complete rest d c h k u))
    (Memᴰ.append_cases (headings (suc d) inner) w)) (Memᴰ.cases_cons m)
enum-complete (ignored i v rest) d c h k m =
    ⊎_elim (λ e. let z : ◌≡◌ {A = ℕ} 0 1 = cc in absurd (omega arith)) (λ w. enum-complete rest d c h k w) (Memᴰ.cases_cons m)
