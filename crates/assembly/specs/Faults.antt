-- When step 5 tells 27 and 28, and in which order. Assumes nothing.
use Rattle.std.specs.Prelude.{ℕ, zero, suc, Bool, cond, ◌⊎◌, ◌≡◌, refl}
use Rattle.std.proofs.Common.{arith, inl, inr, sym, ap, subst, ◌∙◌}
use Rattle.std.proofs.Math.Bool.{true, false}
use Rattle.std.proofs.Math.Logic.{⊎_elim}
use mathlib.Core.List.Memᴰ
use mathlib.Core.List.{List, [], ◌∷◌, ◌++◌, map, append_assoc, append-nil, Memᴰ}
use Rattle.bundle.specs.Bundle.{Items, Bundle}
use Rattle.discovery.specs.Discovery.{Fault, discover_dependencies}
use Rattle.graph.specs.Linearize.{Out, order, ring, and_then, each, visit, memb, linearize}
use Rattle.graph.specs.Order as graph
use Rattle.order.specs.Run.{walk_of, linked, outcome, ordered}
use Rattle.assembly.specs.Assemble.{no_main, foreign_enum, rewrite_use, file_of, items_of, local_items, enum_declarations, foreign_enum_fault, forbid_enum_dec_in_deps, has_main, no_main_fault, main_faults, assembly_faults}
use Rattle.assembly.specs.Rewritten.{map-append, enums_rewritten, main-rewritten}

-- UNIT 0 IS LINKED LAST
order-of : (o : List ℕ) (fs : List Fault) (x : Out) → outcome fs x ≡ linked o → x ≡ order o
order-of o [] (order p) e = let q : p ≡ o = cc in ap order q
order-of o [] (ring r) e = let z : ◌≡◌ {A = ℕ} 0 1 = cc in absurd (omega arith)
order-of o (f ∷ fs) x e = let z : ◌≡◌ {A = ℕ} 0 1 = cc in absurd (omega arith)

pub record ZeroLast (o : List ℕ) : Type 0 where
  pub before : List ℕ
  pub is : o ≡ before ++ (0 ∷ [])

snoc_last : (o : List ℕ) (x : Out) → and_then x (λ p. order (p ++ (0 ∷ []))) ≡ order o → ZeroLast o
snoc_last o (order p) e = record { before = p; is = let q : p ++ (0 ∷ []) ≡ o = cc in sym q }
snoc_last o (ring r) e = let z : ◌≡◌ {A = ℕ} 0 1 = cc in absurd (omega arith)

walk-last : (deps : ℕ → List ℕ) (n : ℕ) (o : List ℕ) → linearize deps n ≡ order o → ZeroLast o
unfolding linearize visit memb
walk-last deps n o e = snoc_last o (each (visit deps n (0 ∷ [])) 0 [] (deps 0)) e

pub zero-last : (b : Bundle) (o : List ℕ) → ordered b ≡ linked o → ZeroLast o
unfolding ordered
zero-last b o e = walk-last _ _ o (order-of o (discover_dependencies b).faults (walk_of (discover_dependencies b)) e)

-- and not before
pub once_last : {u : ℕ} (p : List ℕ) → graph.Once (p ++ (u ∷ [])) → Memᴰ u p → ⊥
once_last [] h m = Memᴰ.not-nil m
once_last {u} (x ∷ p) (graph.more n h) m =
    ⊎_elim (λ e. n (subst (λ (y : ℕ). Memᴰ y (p ++ (u ∷ []))) e (Memᴰ.append_right p (Memᴰ.head refl)))) (λ w. once_last p h w) (Memᴰ.cases_cons m)

-- THE FAULTS
-- the marks of the enums of some units' files, in order
unfoldable pub enums_of : Bundle → List ℕ → List ℕ
enums_of b [] = []
enums_of b (u ∷ l) = enum_declarations (items_of b u) ++ enums_of b l

-- 27 at place 0, or nothing
unfoldable pub main_fault : Bundle → List Fault
main_fault b = cond (has_main (items_of b 0)) [] (no_main_fault ∷ [])

-- the numbers of step 5's faults
pub step5-numbers : (b : Bundle) (l : List ℕ) (f : Fault) → Memᴰ f (assembly_faults b l) → (f.number ≡ no_main) ⊎ (f.number ≡ foreign_enum)
unfolding assembly_faults main_faults forbid_enum_dec_in_deps
step5-numbers b [] f m = absurd (Memᴰ.not-nil m)
step5-numbers b (u ∷ l) f m = go u (local_items b u) (step5-numbers b l f) m
  where
    main : (t : Bool) → Memᴰ f (cond t [] (no_main_fault ∷ [])) → (f.number ≡ no_main) ⊎ (f.number ≡ foreign_enum)
    main true h = absurd (Memᴰ.not-nil h)
    main false h = ⊎_elim (λ e. inl (ap (λ (g : Fault). g.number) e)) (λ w. absurd (Memᴰ.not-nil w)) (Memᴰ.cases_cons h)

    mains : (v : ℕ) (is : Items) → Memᴰ f (main_faults v is) → (f.number ≡ no_main) ⊎ (f.number ≡ foreign_enum)
    mains zero is h = main (has_main is) h
    mains (suc v) is h = absurd (Memᴰ.not-nil h)

    enums : (v : ℕ) (is : Items) → Memᴰ f (forbid_enum_dec_in_deps v is) → (f.number ≡ no_main) ⊎ (f.number ≡ foreign_enum)
    enums zero is h = absurd (Memᴰ.not-nil h)
    enums (suc v) is h = let t = Memᴰ.of_map foreign_enum_fault (enum_declarations is) h in inr (ap (λ (g : Fault). g.number) (sym t.2))

    go : (v : ℕ) (is : Items) → (Memᴰ f (assembly_faults b l) → (f.number ≡ no_main) ⊎ (f.number ≡ foreign_enum)) → Memᴰ f (main_faults v is ++ (forbid_enum_dec_in_deps v is ++ assembly_faults b l))
        → (f.number ≡ no_main) ⊎ (f.number ≡ foreign_enum)
    go v is ih h = ⊎_elim (mains v is) (λ w. ⊎_elim (enums v is) ih (Memᴰ.append_cases (forbid_enum_dec_in_deps v is) w)) (Memᴰ.append_cases (main_faults v is) h)

faults-append : (b : Bundle) (l k : List ℕ) → assembly_faults b (l ++ k) ≡ assembly_faults b l ++ assembly_faults b k
unfolding assembly_faults
faults-append b [] k = refl
faults-append b (u ∷ l) k =
    rw (faults-append b l k)
    (sym (append_assoc (main_faults u (local_items b u)) (forbid_enum_dec_in_deps u (local_items b u) ++ assembly_faults b l) (assembly_faults b k)
    ∙ ap (λ (t : List Fault). main_faults u (local_items b u) ++ t) (append_assoc (forbid_enum_dec_in_deps u (local_items b u)) (assembly_faults b l) (assembly_faults b k))))

-- units other than 0
others : (b : Bundle) (l : List ℕ) → (Memᴰ 0 l → ⊥) → assembly_faults b l ≡ map foreign_enum_fault (enums_of b l)
unfolding assembly_faults enums_of main_faults forbid_enum_dec_in_deps local_items
others b [] n = refl
others b (zero ∷ l) n = absurd (n (Memᴰ.head refl))
others b (suc u ∷ l) n =
    rw (others b l (λ m. n (Memᴰ.tail m)), enums_rewritten (rewrite_use b (file_of b (suc u))) (items_of b (suc u)))
    (sym (map-append foreign_enum_fault (enum_declarations (items_of b (suc u))) (enums_of b l)))

zero-faults : (b : Bundle) → assembly_faults b (0 ∷ []) ≡ main_fault b
unfolding assembly_faults main_faults forbid_enum_dec_in_deps local_items main_fault
zero-faults b = rw (main-rewritten (rewrite_use b (file_of b 0)) (items_of b 0)) (append-nil _)

-- ALL 28s IN LINKED ORDER, THEN 27
pub faults-are : (b : Bundle) (p : List ℕ) → (Memᴰ 0 p → ⊥) → assembly_faults b (p ++ (0 ∷ [])) ≡ map foreign_enum_fault (enums_of b p) ++ main_fault b
faults-are b p n = rw (faults-append b p (0 ∷ []), others b p n, zero-faults b)

-- WHEN
-- an enum somewhere in the file of one of some units
pub record EnumIn (b : Bundle) (l : List ℕ) (mark : ℕ) : Type 0 where
  pub unit : ℕ
  pub linked : Memᴰ unit l
  pub declared : Memᴰ mark (enum_declarations (items_of b unit))

pub enum-found : (b : Bundle) (l : List ℕ) (m : ℕ) → Memᴰ m (enums_of b l) → EnumIn b l m
unfolding enums_of
enum-found b [] m h = absurd (Memᴰ.not-nil h)
enum-found b (u ∷ l) m h =
    ⊎_elim (λ w. record { unit = u; linked = Memᴰ.head refl; declared = w })
    (λ w. let t = enum-found b l m w in record { unit = t.unit; linked = Memᴰ.tail t.linked; declared = t.declared })
    (Memᴰ.append_cases (enum_declarations (items_of b u)) h)

pub enum_told : (b : Bundle) (l : List ℕ) (m u : ℕ) → Memᴰ u l → Memᴰ m (enum_declarations (items_of b u)) → Memᴰ m (enums_of b l)
unfolding enums_of
enum_told b [] m u i h = absurd (Memᴰ.not-nil i)
enum_told b (x ∷ l) m u i h =
    ⊎_elim (λ e. Memᴰ.append_left _ (subst (λ (y : ℕ). Memᴰ m (enum_declarations (items_of b y))) e h))
    (λ w. Memᴰ.append_right (enum_declarations (items_of b x)) (enum_told b l m u w h)) (Memᴰ.cases_cons i)

pub main-told : (b : Bundle) → has_main (items_of b 0) ≡ false → main_fault b ≡ no_main_fault ∷ []
unfolding main_fault
main-told b e = rw e

pub main-there : (b : Bundle) → has_main (items_of b 0) ≡ true → main_fault b ≡ []
unfolding main_fault
main-there b e = rw e

-- the two numbers are told apart
enum_no_main : {m : ℕ} → no_main_fault ≡ foreign_enum_fault m → ⊥
enum_no_main e = let z = ap (λ (f : Fault). f.number) e in omega arith

same-mark : {m n : ℕ} → foreign_enum_fault m ≡ foreign_enum_fault n → m ≡ n
same-mark e = ap (λ (f : Fault). f.place) e

module _ (b : Bundle) (p : List ℕ) where
  abbrev told : List Fault
  told = map foreign_enum_fault (enums_of b p) ++ main_fault b

  in_main : {f : Fault} → Memᴰ f (main_fault b) → (f ≡ no_main_fault) × (has_main (items_of b 0) ≡ false)
  unfolding main_fault
  in_main {f} m = go (has_main (items_of b 0)) m
    where
      go : (t : Bool) → Memᴰ f (cond t [] (no_main_fault ∷ [])) → (f ≡ no_main_fault) × (t ≡ false)
      go true m = absurd (Memᴰ.not-nil m)
      go false m = ⊎_elim (λ e. (e, refl)) (λ w. absurd (Memᴰ.not-nil w)) (Memᴰ.cases_cons m)

  pub no_main-only : Memᴰ no_main_fault told → has_main (items_of b 0) ≡ false
  no_main-only m =
      ⊎_elim (λ w. let t = Memᴰ.of_map foreign_enum_fault (enums_of b p) w in absurd (enum_no_main (sym t.2))) (λ w. (in_main w).1)
      (Memᴰ.append_cases (map foreign_enum_fault (enums_of b p)) m)

  pub no_main_always : has_main (items_of b 0) ≡ false → Memᴰ no_main_fault told
  no_main_always e = Memᴰ.append_right (map foreign_enum_fault (enums_of b p)) (rw (main-told b e) (Memᴰ.head refl))

  pub enum_only : (m : ℕ) → Memᴰ (foreign_enum_fault m) told → EnumIn b p m
  enum_only m h =
      ⊎_elim (λ w. let t = Memᴰ.of_map foreign_enum_fault (enums_of b p) w in enum-found b p m (subst (λ (n : ℕ). Memᴰ n (enums_of b p)) (same-mark t.2) t.1))
      (λ w. absurd (enum_no_main (sym (in_main w).0))) (Memᴰ.append_cases (map foreign_enum_fault (enums_of b p)) h)

  pub enum_always : (m u : ℕ) → Memᴰ u p → Memᴰ m (enum_declarations (items_of b u)) → Memᴰ (foreign_enum_fault m) told
  enum_always m u i h = Memᴰ.append_left _ (Memᴰ.map foreign_enum_fault (enum_told b p m u i h))
