-- HOW LONG THE PRINTED TEXT IS: at most 400,000 bytes, whatever the bundle. Assumes nothing.
use Rattle.std.specs.Prelude.{ℕ, zero, suc, ◌≤◌, ◌<◌, Bool, true, false, cond, ◌&&◌, ◌≡◌, eqb, leb, length, get_or, take, drop}
use native.Mathlib.Omega.{arith}
use Rattle.std.proofs.Common.{⊎_elim, sym, ap, subst, ◌∙◌, length-take, take_at, leb-true}
use Rattle.std.proofs.Math.Path.{refl}
use mathlib.Core.List.{List, [], ◌∷◌, ◌++◌, Memᴰ}
use Rattle.std.proofs.lemmas.List.{length-map}
use Rattle.bundle.specs.Limits.{file_limit}
use Rattle.names.specs.Bytes.{slash, and_left, and_right}
use Rattle.names.specs.Identifier.{is_identifier}
use Rattle.names.specs.Packed.{packed}
use Rattle.names.specs.Path.{is_path, path_limit, well_formed, components}
use Rattle.names.specs.Decimal.{unit_name}
use Rattle.names.specs.declared.Name.{Name}
use Rattle.text.specs.Words.{Text, lines, no_line}
use Rattle.text.specs.Writing.{shown, reach, shown-all}
use Rattle.bundle.specs.Bundle.{Items, none, named, use_of, module_of, ignored, File, Bundle}
use Rattle.bundle.specs.Form.{WellFormed, IsPath}
use Rattle.bundle.specs.Stand.{Bytes}
use Rattle.bundle.specs.Read.{Reading, value, refused, read}
use Rattle.bundle.specs.Theorems.{sound}
use Rattle.bundle.specs.Numbers.{numbers}
use Rattle.bundle.specs.RefusalTheorems.{read_only, place-within}
use Rattle.bundle.specs.AcceptedTheorems.{accepted_implies}
use Rattle.discovery.specs.Discovery.{Use, uses, Fault, paths_of}
use Rattle.discovery.specs.Facts.{get_d_mem, pigeons}
use Rattle.discovery.specs.Right.{discovered}
use Rattle.discovery.specs.Weight.{reached-file}
use Rattle.order.specs.Run.{ordered, units_of}
use Rattle.order.specs.Run as order
use Rattle.order.specs.Theorems.{first_half, order-count, never_ended}
use Rattle.order.specs.Exact.{fault-numbers, place-small, ring_exact}
use Rattle.scope_tree.specs.Step.{Call, enter, alias, enum, function, bad}
use Rattle.scope_tree.specs.Flat.{Flat, flat, first_flat}
use Rattle.scope_tree.specs.Form.{Request, enters, exits, inserts_alias, inserts_enum, inserts_function, resolves_use, call_of, calls_of, use_call, use_fault}
use Rattle.scope_tree.specs.Form as form
use Rattle.scopes.specs.Meets.{declares}
use Rattle.assembly.specs.Image.{items_length, image_limit}
use Rattle.assembly.specs.Assemble.{enum_kind, rewrite_use, rewrite_items, file_of, items_of, local_items, assembled, enum_declarations, foreign_enum_fault, forbid_enum_dec_in_deps, has_main, no_main_fault, main_faults, assembly_faults, step5, assemble_after, linearize_and_assemble}
use Rattle.assembly.specs.Faults.{step5-numbers}
use Rattle.assembly.specs.Theorems.{FaultsFrom, of_discovery, of_step5, program_always}
use Rattle.scope_walk.specs.Scopes.{Asked, is_public, use_form, scope_calls, Walked, done, stopped, scope_walk}
use Rattle.linker.specs.Link.{Outcome, faulty, closed, ended, result, linked, step6, link_after, link_bundle}
use Rattle.scope_walk.specs.Steps.{Plain}
use Rattle.scope_walk.specs.Fit.{unit-plain}
use Rattle.linker.specs.Refusals.{RefusedBy, by_form, by_rule, by_limit, refused-by, bad-small}
use Rattle.linker.specs.Theorems.{requests, walk-stopped, faults-only, linked_always, LinkedBundle, linked-bundle}
use Rattle.printing.specs.Lines.{linked_lines, outcome_lines, reading_lines, printed}
use Rattle.printing.specs.ReadTheorems.{verdict_enough}
use Rattle.printing.specs.DepthTheorems.{Limited, Declares, AllDeclare, tree_limited}
use Rattle.printing.specs.Room.{discovery-few, step5-few, read-roomy}
use Rattle.printing.specs.Lengths.{width_fits, five_digits, one-fits, faults-fit, ring-fits, linked-fits}
use Rattle.printing.specs.Sizes.{text_size}

-- KINDS AND MARKS of a program's calls
abbrev pub Small : ℕ → ℕ → Type 0
Small k m = (1 ≤ k) × ((k ≤ 3) × (m < 65536))

abbrev Calls : List Asked → Type 0
Calls l = (a : Asked) → Memᴰ a l → (a.place < 65536) × Declares Small (call_of a.request)

named_small : (s : List ℕ) (f : Name → Call) → ((n : Name) → Declares Small (f n)) → Declares Small (form.named s f)
named_small s f g = go (is_identifier s)
  where
    go : (t : Bool) → Declares Small (cond t (f (packed s)) (bad 5))
    go true = g (packed s)
    go false = tt

enters-small : (s : List ℕ) (v : Bool) (m : ℕ) → m < 65536 → Declares Small (call_of (enters s v m))
unfolding call_of
enters-small s v m h = named_small s (λ n. enter n v m) (λ n. (omega arith, (omega arith, h)))

exits-small : Declares Small (call_of exits)
unfolding call_of
exits-small = tt

declares-small : (k : ℕ) (s : List ℕ) (v : Bool) (m : ℕ) → m < 65536 → Declares Small (call_of (declares k s v m))
unfolding call_of
declares-small k s v m h = go (eqb k 2) (eqb k 4)
  where
    go : (a b : Bool) → Declares Small (call_of (cond a (inserts_function s v m) (cond b (inserts_enum s v m) (inserts_alias s v m))))
    go true b = named_small s (λ n. function n v m) (λ n. (omega arith, (omega arith, h)))
    go false true = named_small s (λ n. enum n v m) (λ n. (omega arith, (omega arith, h)))
    go false false = named_small s (λ n. alias n v m) (λ n. (omega arith, (omega arith, h)))

uses_small : (s : List ℕ) (v : Bool) → Declares Small (call_of (resolves_use s v))
unfolding call_of use_call
uses_small s v = go (eqb (use_fault s) 0)
  where
    go : (t : Bool) → Declares Small (cond t (use_call s v) (bad (use_fault s)))
    go true = tt
    go false = tt

one_more : (a : Asked) (l : List Asked) → (a.place < 65536) × Declares Small (call_of a.request) → Calls l → Calls (a ∷ l)
one_more a l p c x m = ⊎_elim (λ q. subst (λ (y : Asked). (y.place < 65536) × Declares Small (call_of y.request)) (sym q) p) (c x) (mathlib.Core.List.Memᴰ.cases_cons m)

both-calls : (l k : List Asked) → Calls l → Calls k → Calls (l ++ k)
both-calls l k c d x m = ⊎_elim (c x) (d x) (mathlib.Core.List.Memᴰ.append_cases l m)

no_calls : Calls []
no_calls x m = absurd (mathlib.Core.List.Memᴰ.not-nil m)

items-calls : (us : List Use) (path : List Text → List Text) (x : Items) → Plain us x → Calls (scope_calls (rewrite_items path x))
unfolding Plain scope_calls rewrite_items
items-calls us path none p = no_calls
items-calls us path (named head rest) p = one_more _ _ (p.0, declares-small head.kind head.name (is_public head.visibility) head.mark p.0) (items-calls us path rest p.1)
items-calls us path (use_of m v segments elements rest) p = one_more _ _ (p.0.0, uses_small (use_form (path segments) elements) (is_public v)) (items-calls us path rest p.1)
items-calls us path (module_of m v name inner rest) p =
    one_more _ _ (p.0, enters-small name (is_public v) m p.0)
    (both-calls _ _ (items-calls us path inner p.1.0) (one_more _ _ (p.0, exits-small) (items-calls us path rest p.1.1)))
items-calls us path (ignored m v rest) p = items-calls us path rest p

program-calls : (b : Bundle) → WellFormed b → (o : List ℕ) → Calls (scope_calls (assembled b o))
unfolding scope_calls assembled local_items
program-calls b w [] = no_calls
program-calls b w (u ∷ o) =
    one_more _ _ (omega arith, enters-small (unit_name u) (is_public 0) 0 (omega arith))
    (both-calls _ _ (items-calls (uses (items_of b u)) (rewrite_use b (file_of b u)) (items_of b u) (unit-plain b w u)) (one_more _ _ (omega arith, exits-small) (program-calls b w o)))

all_declare : (l : List Asked) → Calls l → AllDeclare Small (calls_of (requests l))
unfolding calls_of
all_declare [] c d m = absurd (mathlib.Core.List.Memᴰ.not-nil m)
all_declare (a ∷ l) c d m =
    ⊎_elim (λ q. subst (λ (x : Call). Declares Small x) (sym q) (c a (mathlib.Core.List.Memᴰ.head refl)).1) (all_declare l (λ x k. c x (mathlib.Core.List.Memᴰ.tail k)) d) (mathlib.Core.List.Memᴰ.cases_cons m)

-- THE FAULTS OF STEP 5: each place is 0 or a mark
enums_small : (us : List Use) (path : List Text → List Text) (x : Items) → Plain us x → (m : ℕ) → Memᴰ m (enum_declarations (rewrite_items path x)) → m < 65536
unfolding Plain rewrite_items enum_declarations
enums_small us path none p m i = absurd (mathlib.Core.List.Memᴰ.not-nil i)
enums_small us path (named head rest) p m i = go (eqb head.kind enum_kind) (enums_small us path rest p.1 m) i
  where
    go : (t : Bool) → (Memᴰ m (enum_declarations (rewrite_items path rest)) → m < 65536) → Memᴰ m (cond t (head.mark ∷ enum_declarations (rewrite_items path rest)) (enum_declarations (rewrite_items path rest))) → m < 65536
    go true f j = ⊎_elim (λ q. let h = p.0 in omega arith) f (mathlib.Core.List.Memᴰ.cases_cons j)
    go false f j = f j
enums_small us path (use_of at v segments elements rest) p m i = enums_small us path rest p.1 m i
enums_small us path (module_of at v name inner rest) p m i =
    ⊎_elim (enums_small us path inner p.1.0 m) (enums_small us path rest p.1.1 m) (mathlib.Core.List.Memᴰ.append_cases (enum_declarations (rewrite_items path inner)) i)
enums_small us path (ignored at v rest) p m i = enums_small us path rest p m i

foreign_small : (b : Bundle) → WellFormed b → (u v : ℕ) (f : Fault) → Memᴰ f (forbid_enum_dec_in_deps v (local_items b u)) → f.place < 65536
unfolding forbid_enum_dec_in_deps local_items
foreign_small b w u zero f m = absurd (mathlib.Core.List.Memᴰ.not-nil m)
foreign_small b w u (suc v) f m =
    let t = mathlib.Core.List.Memᴰ.of_map foreign_enum_fault (enum_declarations (local_items b u)) m in
    subst (λ (x : Fault). x.place < 65536) t.2 (enums_small (uses (items_of b u)) (rewrite_use b (file_of b u)) (items_of b u) (unit-plain b w u) t.0 t.1)

main-small : (is : Items) (u : ℕ) (f : Fault) → Memᴰ f (main_faults u is) → f.place < 65536
unfolding main_faults
main-small is (suc u) f m = absurd (mathlib.Core.List.Memᴰ.not-nil m)
main-small is zero f m = go (has_main is) m
  where
    go : (t : Bool) → Memᴰ f (cond t [] (no_main_fault ∷ [])) → f.place < 65536
    go true k = absurd (mathlib.Core.List.Memᴰ.not-nil k)
    go false k = ⊎_elim (λ q. subst (λ (x : Fault). x.place < 65536) (sym q) (omega arith)) (λ j. absurd (mathlib.Core.List.Memᴰ.not-nil j)) (mathlib.Core.List.Memᴰ.cases_cons k)

step5-small : (b : Bundle) → WellFormed b → (o : List ℕ) (f : Fault) → Memᴰ f (assembly_faults b o) → f.place < 65536
unfolding assembly_faults
step5-small b w [] f m = absurd (mathlib.Core.List.Memᴰ.not-nil m)
step5-small b w (u ∷ o) f m =
    ⊎_elim (main-small (local_items b u) u f)
    (λ k. ⊎_elim (foreign_small b w u u f) (step5-small b w o f) (mathlib.Core.List.Memᴰ.append_cases (forbid_enum_dec_in_deps u (local_items b u)) k))
    (mathlib.Core.List.Memᴰ.append_cases (main_faults u (local_items b u)) m)

-- UNITS: a path has at most 255 bytes
path_255 : (t : Text) → IsPath t → length t ≤ 255
unfolding is_path
path_255 t h = leb-true (length t) path_limit (and_left (leb (length t) path_limit) (well_formed (components t)) (and_right (eqb (get_or t 0 0) slash) (leb (length t) path_limit && well_formed (components t)) h))

-- OF EVERY ACCEPTED BUNDLE
module _ (s : List ℕ) (B : Bytes s) (b : Bundle) (v : read s ≡ value b) where
  w : WellFormed b
  w = (sound s B b v).1

  units-few : length (units_of b) ≤ file_limit
  units-few =
      omega (arith, w.form.file_count_within, pigeons (discovered b).once (paths_of b) (λ p m. reached-file b p ((discovered b).sound p m)), length-map b.files (λ (f : File). f.path))

  abbrev Fits : Outcome → Type 0
  Fits x = length (lines (outcome_lines b x)) ≤ 400000

  faulty-fits : (l : List Fault) → length l ≤ 2000 → ((f : Fault) → Memᴰ f l → (f.number < 100) × (f.place < 65536)) → Fits (faulty l)
  unfolding outcome_lines
  faulty-fits l few small = faults-fit l few small

  -- THE TREE OF A LINKED BUNDLE: at most 1,024 entries, each at most 9 deep, of kind 1 to 3 and with a mark of two bytes
  pub linked-tree : (o : List ℕ) (p : Items) (x : Flat) → link_bundle b ≡ linked o p x → Limited Small x
  linked-tree o p x e =
      let l = linked-bundle s B b v o p x e in
      subst (Limited Small) l.tree
      (tree_limited Small (calls_of (requests (scope_calls p))) (all_declare (scope_calls p) (subst (λ (i : Items). Calls (scope_calls i)) (sym l.program.is) (program-calls b w o))))

  linked_case : (o : List ℕ) (p : Items) (x : Flat) → link_bundle b ≡ linked o p x → Fits (linked o p x)
  unfolding outcome_lines
  linked_case o p x e = go (leb (items_length p) image_limit)
    where
      lk : LinkedBundle b o p x
      lk = linked-bundle s B b v o p x e

      tree : Limited Small x
      tree = linked-tree o p x e

      units : (u : ℕ) → Memᴰ u o → (u < file_limit) × (length (get_or (units_of b) u []) ≤ 255)
      units u m =
          let h = lk.assembled.only_units u m in
          let n = units-few in
          let i = get_d_mem (units_of b) u [] h in
          (omega arith, path_255 (get_or (units_of b) u []) ((accepted_implies b w).paths (get_or (units_of b) u []) (mathlib.Core.List.Memᴰ.append_right b.folders (reached-file b (get_or (units_of b) u []) ((discovered b).sound (get_or (units_of b) u []) i)))))

      go : (t : Bool) → length (lines (cond t (linked_lines (units_of b) o x.entries) (no_line 15 0 ∷ []))) ≤ 400000
      go true = linked-fits (units_of b) o x.entries (omega (arith, order-count b o lk.files, units-few)) units tree.few (λ y m. let k = tree.frame.shown y m in (tree.frame.scopes y m, (omega (arith, k.1.0), k.1.1)))
      go false = one-fits 15 0 (omega arith) (omega (arith, five_digits 0 (omega arith)))

  ended_case : (o : List ℕ) (n p : ℕ) → scope_walk (assembled b o) ≡ stopped n p → Fits (ended n p)
  unfolding outcome_lines scope_walk
  ended_case o n p e =
      let t = walk-stopped flat first_flat (scope_calls (assembled b o)) n p e in
      let c = program-calls b w o t.call (subst (λ (l : List Asked). Memᴰ t.call l) (sym t.is) (mathlib.Core.List.Memᴰ.append_right t.before (mathlib.Core.List.Memᴰ.head refl))) in
      let pl = t.place in
      one-fits n p (number t.call.request (refused-by t.tree n (call_of t.call.request) t.number)) (omega (arith, five_digits p (omega (arith, c.0))))
    where
      number : {y : Flat} (r : Request) → RefusedBy y (call_of r) n → n < 100
      number r (by_form i) = omega (arith, bad-small r n i)
      number r (by_rule i j) = omega arith
      number r (by_limit i j) = omega arith

  outcome_fits : Fits (link_bundle b)
  unfolding link_bundle linearize_and_assemble outcome_lines
  outcome_fits = go (ordered b) refl
    where
      sixth : (o : List ℕ) → ordered b ≡ order.linked o → assembly_faults b o ≡ [] → (x : Walked Flat) → scope_walk (assembled b o) ≡ x → Fits (step6 o (assembled b o) x)
      sixth o q f (done x) t = linked_case o (assembled b o) x (linked_always b o (assembled b o) x (program_always b o q f) t)
      sixth o q f (stopped n p) t = ended_case o n p t

      fifth : (o : List ℕ) → ordered b ≡ order.linked o → (fs : List Fault) → assembly_faults b o ≡ fs → Fits (link_after (step5 fs o (assembled b o)))
      fifth o q [] e = sixth o q e (scope_walk (assembled b o)) refl
      fifth o q (f ∷ fs) e =
          faulty-fits (f ∷ fs) (omega (arith, step5-few b w o q, ap length e)) (λ x m.
          let i : Memᴰ x (assembly_faults b o) = subst (λ (l : List Fault). Memᴰ x l) (sym e) m in
          (⊎_elim (λ k. omega arith) (λ k. omega arith) (step5-numbers b o x i), step5-small b w o x i))

      go : (x : order.Outcome) → ordered b ≡ x → Fits (link_after (assemble_after b x))
      go (faulty l) q =
          let e = ((first_half b w.form.some_file).faults l q).0 in
          faulty-fits l (omega (arith, discovery-few b (read-roomy s B b v), ap length e)) (λ x m.
          let i = subst (λ (k : List Fault). Memᴰ x k) e m in
          (omega (arith, (fault-numbers b x i).1), place-small b w x i))
      go (closed r) q =
          let below = (first_half b w.form.some_file).ring_ids r q in
          ring-fits r (ring_exact b w r q).1 (λ u m. omega (arith, below u m, units-few))
      go (ended n p) q = absurd (never_ended b n p q)
      go (result o) q = fifth o q (assembly_faults b o) refl

-- AT MOST 1,025 FAULTS are told
module _ (s : List ℕ) (B : Bytes s) (b : Bundle) (v : read s ≡ value b) where
  pub faults-few : (l : List Fault) → link_bundle b ≡ faulty l → length l ≤ 1025
  faults-few l e = go (faults-only s b v l e).from
    where
      go : FaultsFrom b l → length l ≤ 1025
      go (of_discovery q) = omega (arith, discovery-few b (read-roomy s B b v), ap length q)
      go (of_step5 o h q) = omega (arith, step5-few b (w s B b v) o h, ap length q)

-- 1 TO 13: a place lies among the first 65,539 bytes
front-byte : (n : ℕ) (s : List ℕ) (i : ℕ) → get_or (take n s) i 0 ≤ get_or s i 0
front-byte zero s i = omega arith
front-byte (suc n) [] i = omega arith
front-byte (suc n) (x ∷ s) zero = omega arith
front-byte (suc n) (x ∷ s) (suc i) = front-byte n s i

pub place-small-refused : (s : List ℕ) → Bytes s → (n p : ℕ) → read s ≡ refused n p → (n ≤ 13) × (p ≤ 65539)
place-small-refused s B n p e =
    let v = read_only s n p e in
    let i = place-within (take 65539 s) (λ j. omega (arith, front-byte 65539 s j, B j)) n p (verdict_enough s B 65539 (omega arith) ∙ v) in
    ((numbers s n p v).1, omega (arith, i.0, length-take 65539 s))

-- THE THEOREM: whatever the bytes, the printed text has at most 400,000 bytes
pub printed-short : (s : List ℕ) → Bytes s → length (printed s) ≤ 400000
unfolding printed reading_lines
printed-short s B = go (read s) refl
  where
    go : (r : Reading) → read s ≡ r → length (lines (reading_lines r)) ≤ 400000
    go (refused n p) e =
        let k = place-small-refused s B n p e in
        let small : p < 100000 = omega (arith, k.1) in
        one-fits n p (omega (arith, k.0)) (omega (arith, width_fits 4 p small))
    go (value b) e = outcome_fits s B b e

-- so a buffer of 440,000 bytes has room for it
pub printed-fits : (s : List ℕ) → Bytes s → length (printed s) ≤ text_size
printed-fits s B = omega (arith, printed-short s B)

-- and holds all of it once it is written there
pub printed-whole : (s : List ℕ) → Bytes s → (o : List ℕ) → 400000 ≤ length o → (take (length (printed s)) (shown (printed s) o) ≡ printed s) × (reach (printed s) o ≡ length (printed s))
printed-whole s B o h =
    let a = shown-all (printed s) o (omega (arith, printed-short s B)) in
    (ap (take (length (printed s))) a.0 ∙ take_at (printed s) (drop (length (printed s)) o) (length (printed s)) refl, a.1)
