-- Different units have no more enums together than a bundle has items, so that the faults of step 5 fit. Assumes nothing.
use Rattle.std.specs.Prelude.{ℕ, ◌+◌, ◌-◌, ◌≤◌, ◌<◌, Bool, true, false, cond, ◌≡◌, refl, eqb, length, take}
use Rattle.std.specs.List.{flat_map}
use Rattle.std.proofs.Common.{arith, sym, ap, subst, ◌∙◌, length-append, take_at}
use Rattle.std.proofs.Math.Seq.{take-length}
use mathlib.Core.List.{List, [], ◌∷◌, ◌++◌, map}
use Rattle.std.proofs.lemmas.List.{map-append}
use Rattle.bundle.specs.Bundle.{Items, none, named, use_of, module_of, ignored, File, Bundle}
use Rattle.bundle.specs.Form.{item_count, file_items}
use Rattle.bundle.specs.Limits.{item_limit}
use Rattle.bundle.specs.Stand.{Bytes}
use Rattle.bundle.specs.Decode.{decode}
use Rattle.bundle.specs.Theorems.{sound, accepted}
use Rattle.discovery.specs.Discovery.{Fault}
use Rattle.discovery.specs.declared.known.Known.{Known}
use Rattle.driver.specs.Meaning.{fault_told}
use Rattle.discovery.specs.Facts.{paths_at}
use Rattle.discovery.specs.Room.{checked-roomy}
use Rattle.discovery.specs.Weight.{reached-file, sum_of, total_of, weigh_of}
use Rattle.order.specs.Run.{ordered, linked, files_of}
use Rattle.order.specs.Theorems.{first_half}
use Rattle.assembly.specs.Assemble.{enum_kind, items_of, enum_declarations, foreign_enum_fault, has_main, no_main_fault, assembly_faults}
use Rattle.assembly.specs.Faults.{zero-last, once_last, enums_of, main_fault, faults-are}
use Rattle.assembly.specs.FaultRoom.{foreign, fault_limit, main_told, Telling}
use Rattle.assembly.specs.Given.{OrderGiven}

-- an enum is an item
pub enums_few : (x : Items) → length (enum_declarations x) ≤ item_count x
unfolding enum_declarations item_count
enums_few none = omega arith
enums_few (named head rest) = go (eqb head.kind enum_kind) (enums_few rest)
  where
    go : (t : Bool) → length (enum_declarations rest) ≤ item_count rest → length (cond t (head.mark ∷ enum_declarations rest) (enum_declarations rest)) ≤ 1 + item_count rest
    go true h = omega arith
    go false h = omega arith
enums_few (use_of m v segments elements rest) = let h = enums_few rest in omega arith
enums_few (module_of m v name inner rest) = let h = enums_few rest in let k = enums_few inner in omega (arith, length-append (enum_declarations inner) (enum_declarations rest))
enums_few (ignored m v rest) = let h = enums_few rest in omega arith

-- OF ENUMS
abbrev counts : Items → ℕ
counts x = length (enum_declarations x)

total-few : (fs : List File) → total_of counts fs ≤ file_items fs
unfolding total_of file_items
total-few [] = omega arith
total-few (f ∷ fs) = let h = total-few fs in let k = enums_few f.items in omega arith

enums_sum : (b : Bundle) (l : List ℕ) → length (enums_of b l) ≡ sum_of counts b.files (files_of b l)
unfolding enums_of sum_of paths_at
enums_sum b [] = refl
enums_sum b (u ∷ l) = let h = enums_sum b l in omega (arith, length-append (enum_declarations (items_of b u)) (enums_of b l))

enums_append : (b : Bundle) (l k : List ℕ) → length (enums_of b (l ++ k)) ≡ length (enums_of b l) + length (enums_of b k)
unfolding enums_of
enums_append b [] k = omega arith
enums_append b (u ∷ l) k =
    let h = enums_append b l k in
    omega (arith, length-append (enum_declarations (items_of b u)) (enums_of b (l ++ k)), length-append (enum_declarations (items_of b u)) (enums_of b l))

-- THE FAULTS OF A LINKED ORDER
module _ (s : List ℕ) (B : Bytes s) (known : Known) (ids : List ℕ) (x : OrderGiven s known ids (length ids)) where
  abbrev b : Bundle
  b = decode s

  -- the units before the last, which is 0
  abbrev front : List ℕ
  front = take (length ids - 1) ids

  order : ordered b ≡ linked ids
  order = x.order ∙ ap linked (take-length ids)

  pub front-is : ids ≡ front ++ (0 ∷ [])
  front-is =
      let z = zero-last b ids order in
      let n : length ids ≡ length z.before + 1 = ap length z.is ∙ length-append z.before (0 ∷ []) in
      let f : front ≡ z.before = ap (take (length ids - 1)) z.is ∙ take_at z.before (0 ∷ []) (length ids - 1) (omega arith) in
      z.is ∙ ap (λ (l : List ℕ). l ++ (0 ∷ [])) (sym f)

  pub some-unit : 0 < length ids
  some-unit = omega (arith, ap length front-is, length-append front (0 ∷ []))

  pub enums_fit : length (enums_of b front) ≤ item_limit
  enums_fit =
      let r = (checked-roomy s x.of_units.checked).some in
      let l = (first_half b r).order ids order in
      let w = weigh_of counts l.once b.files (λ p m. reached-file b p (l.sound p m)) in
      let t = total-few b.files in
      let c = (sound s B b (accepted s x.of_units.checked)).1.form.item_count_within in
      let e = enums_sum b ids in
      let a = ap (λ (k : List ℕ). length (enums_of b k)) front-is ∙ enums_append b front (0 ∷ []) in
      omega arith

  pub step5-faults : assembly_faults b ids ≡ map foreign_enum_fault (enums_of b front) ++ main_fault b
  step5-faults =
      let r = (checked-roomy s x.of_units.checked).some in
      let i = (first_half b r).ids ids order in
      ap (assembly_faults b) front-is ∙ faults-are b front (once_last front (subst Rattle.graph.specs.Order.Once front-is i.once))

  -- what is told of them in all
  main-meant : map fault_told (main_told b) ≡ main_fault b
  unfolding main_told main_fault
  main-meant = go (has_main (items_of b 0))
    where
      go : (t : Bool) → map fault_told (cond t [] (Rattle.assembly.specs.FaultRoom.no_main ∷ [])) ≡ cond t [] (no_main_fault ∷ [])
      go true = refl
      go false = refl

  pub all-meant : map fault_told (map foreign (enums_of b front) ++ main_told b) ≡ assembly_faults b ids
  all-meant =
      map-append fault_told (map foreign (enums_of b front)) (main_told b)
      ∙ (ap (λ (l : List Fault). l ++ map fault_told (main_told b)) (meant (enums_of b front)) ∙ (ap (λ (l : List Fault). map foreign_enum_fault (enums_of b front) ++ l) main-meant ∙ sym step5-faults))
    where
      meant : (l : List ℕ) → map fault_told (map foreign l) ≡ map foreign_enum_fault l
      meant [] = refl
      meant (k ∷ l) = ap (λ (r : List Fault). foreign_enum_fault k ∷ r) (meant l)

-- the enums of units, unit by unit
pub enums-units : (b : Bundle) (l : List ℕ) → enums_of b l ≡ flat_map (λ u. enum_declarations (items_of b u)) l
unfolding enums_of
enums-units b [] = refl
enums-units b (u ∷ l) = rw (enums-units b l) refl
