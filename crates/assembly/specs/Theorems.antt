-- STEP 5 IS RIGHT, of every bundle that is not refused and links: its units, their items, their uses, and when 27 and 28 are told.
-- Assumes nothing.
use Rattle.std.specs.Prelude.{ℕ, ◌<◌, ◌≤◌, Bool, ◌⊎◌, length}
use native.Mathlib.Omega.{arith}
use Rattle.std.proofs.Math.Bool.{true, false, cond}
use Rattle.std.proofs.Common.{inl, inr, ⊎_elim, ◌∙◌}
use Rattle.std.proofs.Math.Path.{◌≡◌, refl, sym, ap, subst}
use mathlib.Core.List.{List, [], ◌∷◌, ◌++◌, map, Memᴰ}
use Rattle.std.proofs.Math.Dec.{eqb}
use Rattle.std.proofs.lemmas.List.{length-map}
use borrow.Author.Tests.{eqb-true, eqb-false}
use Rattle.names.specs.Bytes.{ascii, same, same_refl, different}
use Rattle.names.specs.Decimal.{unit_name, unit-names-differ}
use Rattle.bundle.specs.Bundle.{Text, Items, none, named, use_of, module_of, ignored, File, Bundle}
use Rattle.bundle.specs.Limits.{file_limit}
use Rattle.bundle.specs.Form.{WellFormed}
use Rattle.bundle.specs.Read.{value, read}
use Rattle.bundle.specs.Stand.{Bytes}
use Rattle.bundle.specs.Theorems.{sound}
use Rattle.resolution.specs.Lists.{lists_of}
use Rattle.resolution.specs.Resolution.{to, resolve_path_internal}
use Rattle.resolution.specs.Call.{position}
use Rattle.discovery.specs.Discovery.{Use, uses, Fault, paths_of}
use Rattle.discovery.specs.Reached.{Imports, Reached, Once}
use Rattle.discovery.specs.Reached as reached
use Rattle.discovery.specs.Facts.{mem_snoc, pigeons, once-place, id-found, paths_at, paths_mem, mem_paths}
use Rattle.discovery.specs.Right.{discovered}
use Rattle.discovery.specs.Weight.{reached-file}
use Rattle.discovery.specs.Clean.{ToUnit, no_fault}
use Rattle.graph.specs.Order as graph
use Rattle.order.specs.Run.{linked, ordered, units_of, files_of}
use Rattle.order.specs.Outcome as steps
use Rattle.order.specs.Outcome.{result_or}
use Rattle.order.specs.Files.{LinkedFiles, ImportEachOther}
use Rattle.order.specs.Units.{paths-append}
use Rattle.order.specs.Theorems.{faults_of, LinkedIds, FirstHalf, first_half, first_half_read, RingMet, ring-met-only, ring-met_always, never_ended, faults_always as order-faults}
use Rattle.assembly.specs.Assemble.{rewrite_use, file_of, items_of, local_items, assembled, enum_declarations, foreign_enum_fault, has_main, no_main_fault, assembly_faults, Built, Outcome, faulty, closed, ended, result, program, step5, assemble_after, linearize_and_assemble}
use Rattle.assembly.specs.Rewritten.{headings, kept, headings-kept, rewritten, uses-rewritten}
use Rattle.assembly.specs.Faults.{zero-last, once_last, enums_of, main_fault, faults-are, EnumIn, enum-found, main-there, no_main-only, no_main_always, enum_only, enum_always}
use Rattle.assembly.specs.Paths.{ImagePath, image-path, uses-formed, program-formed}

-- A PROGRAM'S MODULES
-- the names of a program's modules
unfoldable pub module_names : Items → List Text
module_names none = []
module_names (named head rest) = module_names rest
module_names (use_of m v segments elements rest) = module_names rest
module_names (module_of m v name inner rest) = name ∷ module_names rest
module_names (ignored m v rest) = module_names rest

-- a program has modules alone, each private and with mark 0
unfoldable pub PrivateModules : Items → Type 0
PrivateModules none = Unit {0}
PrivateModules (named head rest) = ⊥
PrivateModules (use_of m v segments elements rest) = ⊥
PrivateModules (module_of m v name inner rest) = ((m ≡ 0) × (v ≡ 0)) × PrivateModules rest
PrivateModules (ignored m v rest) = ⊥

-- the items of the first module of a name
unfoldable pub module_items : Text → Items → Items
module_items t none = none
module_items t (named head rest) = module_items t rest
module_items t (use_of m v segments elements rest) = module_items t rest
module_items t (module_of m v name inner rest) = cond (same t name) inner (module_items t rest)
module_items t (ignored m v rest) = module_items t rest

module _ (b : Bundle) where
  pub private-modules : (o : List ℕ) → PrivateModules (assembled b o)
  unfolding PrivateModules assembled
  private-modules [] = tt
  private-modules (u ∷ o) = ((refl, refl), private-modules o)

  pub module_names_lem : (o : List ℕ) → module_names (assembled b o) ≡ map unit_name o
  unfolding module_names assembled
  module_names_lem [] = refl
  module_names_lem (u ∷ o) = rw (module_names_lem o)

  -- the module of a unit's name holds that unit's items
  pub module_items_lem : (o : List ℕ) (u : ℕ) → Memᴰ u o → module_items (unit_name u) (assembled b o) ≡ local_items b u
  unfolding module_items assembled
  module_items_lem [] u m = absurd (mathlib.Core.List.Memᴰ.not-nil m)
  module_items_lem (x ∷ o) u m = go (eqb u x) refl (module_items_lem o u)
    where
      go : (t : Bool) → eqb u x ≡ t → (Memᴰ u o → module_items (unit_name u) (assembled b o) ≡ local_items b u)
          → cond (same (unit_name u) (unit_name x)) (local_items b x) (module_items (unit_name u) (assembled b o)) ≡ local_items b u
      go true e f = let q = eqb-true u x e in rw (q, same_refl (unit_name x))
      go false e f =
          rw (different (unit_name u) (unit_name x) (λ q. eqb-false u x e (unit-names-differ u x q)))
          (f (⊎_elim (λ q. absurd (eqb-false u x e q)) (λ w. w) (mathlib.Core.List.Memᴰ.cases_cons m)))

-- different ids, different names
pub names-once : {o : List ℕ} → graph.Once o → Once (map unit_name o)
names-once graph.none = reached.none
names-once (graph.more {u} {l} n h) =
    reached.more (λ m. let t = mathlib.Core.List.Memᴰ.of_map unit_name l m in n (subst (λ (x : ℕ). Memᴰ x l) (sym (unit-names-differ u t.0 (sym t.2))) t.1)) (names-once h)

-- A USE OF A LINKED UNIT
-- x is a use of unit u's file, in a linked order o
pub record RewrittenUse (b : Bundle) (o : List ℕ) (u : ℕ) (x : Use) : Type 0 where
  -- it resolves, to the file of unit `target`
  pub target : ℕ
  pub rest : List Text
  pub is_unit : target < length (units_of b)
  pub resolves : resolve_path_internal (lists_of b) (file_of b u) x.segments ≡ to (file_of b target) rest
  -- its path is `crate`, that unit's name, and the module path that is left
  pub path : rewrite_use b (file_of b u) x.segments ≡ ascii "crate" ∷ unit_name target ∷ rest
  pub form : ImagePath (ascii "crate" ∷ unit_name target ∷ rest)
  -- that unit stands before u in the program, or is u
  pub earlier : (p q : List ℕ) → o ≡ p ++ (u ∷ q) → (target ≡ u) ⊎ Memᴰ target p

module _ (b : Bundle) (w : WellFormed b) (o : List ℕ) (e : ordered b ≡ linked o) where
  half : FirstHalf b (ordered b)
  half = first_half b (let n = w.form.some_file in omega arith)

  ids : LinkedIds b o
  ids = half.ids o e

  linked-files : LinkedFiles b (files_of b o)
  linked-files = half.order o e

  pub few-units : length (units_of b) ≤ file_limit
  few-units =
      let n = pigeons (discovered b).once (paths_of b) (λ p m. reached-file b p ((discovered b).sound p m)) in
      let k = w.form.file_count_within in
      omega (arith, length-map b.files (λ (f : File). f.path))

  module _ (u : ℕ) (m : Memᴰ u o) (x : Use) (used : Memᴰ x (uses (items_of b u))) where
    unit-reached : Reached b (file_of b u)
    unit-reached = linked-files.sound (file_of b u) (paths_mem (units_of b) o m)

    lands : ToUnit b (file_of b u) x
    lands = no_fault b (half.order_faultless o e) (file_of b u) unit-reached x used

    abbrev id : ℕ
    id = position lands.target (units_of b)

    at-id : (id < length (units_of b)) × (file_of b id ≡ lands.target)
    at-id = id-found lands.target (units_of b) lands.unit

    same_id : (d : ℕ) → d < length (units_of b) → file_of b id ≡ file_of b d → id ≡ d
    same_id d h q = once-place [] (discovered b).once id d at-id.0 h q

    stands-earlier : (p q : List ℕ) → o ≡ p ++ (u ∷ q) → (id ≡ u) ⊎ Memᴰ id p
    unfolding paths_at
    stands-earlier p q s = go (eqb id u) refl
      where
        split : files_of b o ≡ files_of b p ++ (file_of b u ∷ files_of b q)
        split = ap (files_of b) s ∙ paths-append (units_of b) p (u ∷ q)

        imports : Imports b (file_of b u) lands.target
        imports = record {
          by = x;
          rest = lands.rest;
          used = used;
          resolves = lands.resolves;
          readable = reached-file b lands.target ((discovered b).sound lands.target lands.unit);
        }

        go : (t : Bool) → eqb id u ≡ t → (id ≡ u) ⊎ Memᴰ id p
        go true h = inl (eqb-true id u h)
        go false h =
            let other : lands.target ≡ file_of b u → ⊥ = λ k. eqb-false id u h (same_id u (ids.below u m) (at-id.1 ∙ k)) in
            let t = mem_paths (units_of b) p (linked-files.after (files_of b p) (files_of b q) (file_of b u) lands.target split imports other) in
            let in-o : Memᴰ t.0 o = subst (λ (l : List ℕ). Memᴰ t.0 l) (sym s) (mathlib.Core.List.Memᴰ.append_left _ t.1.0) in
            inr (subst (λ (d : ℕ). Memᴰ d p) (sym (same_id t.0 (ids.below t.0 in-o) (at-id.1 ∙ t.1.1))) t.1.0)

    pub rewritten_use : RewrittenUse b o u x
    unfolding rewrite_use
    rewritten_use = record {
      target = id;
      rest = lands.rest;
      is_unit = at-id.0;
      resolves = lands.resolves ∙ ap (λ (p : Text). to p lands.rest) (sym at-id.1);
      path = rw lands.resolves;
      form =
          image-path (lists_of b) (file_of b u) x.segments lands.target lands.rest id lands.resolves
          (uses-formed (items_of b u) _ (program-formed b.files (file_of b u) w.form.files) x used) (let n = at-id.0 in omega (arith, few-units));
      earlier = stands-earlier;
    }

-- an enum, at any depth, of a linked unit other than 0
pub record ForeignEnum (b : Bundle) (o : List ℕ) (mark : ℕ) : Type 0 where
  pub unit : ℕ
  pub linked : Memᴰ unit o
  pub other : unit ≡ 0 → ⊥
  pub declared : Memᴰ mark (enum_declarations (items_of b unit))

-- THE THEOREM
-- what is due of the program and the faults of a linked order
pub record Assembled (b : Bundle) (o : List ℕ) : Type 0 where
  -- each unit is a private module named `unit_` and its id, in linked order and once, and there is nothing else
  pub modules : PrivateModules (assembled b o)
  pub names : module_names (assembled b o) ≡ map unit_name o
  pub different : Once (map unit_name o)
  pub all_units : (u : ℕ) → u < length (units_of b) → Memᴰ u o
  pub only_units : (u : ℕ) → Memᴰ u o → u < length (units_of b)
  -- it holds the items of its file in their order, with their kinds, names, visibilities, elements and marks, at their depths;
  -- only ignored ones are gone
  pub holds : (u : ℕ) → Memᴰ u o → module_items (unit_name u) (assembled b o) ≡ local_items b u
  pub kept_items : (u d : ℕ) → headings d (local_items b u) ≡ kept (headings d (items_of b u))
  -- its uses are those of its file, each with its path rewritten
  pub kept_uses : (u : ℕ) → uses (local_items b u) ≡ map (rewritten (rewrite_use b (file_of b u))) (uses (items_of b u))
  pub uses_found : (u : ℕ) → Memᴰ u o → (x : Use) → Memᴰ x (uses (items_of b u)) → RewrittenUse b o u x
  -- unit 0 is linked last, so 27 comes after all 28s, which are in linked order and item order
  pub before : List ℕ
  pub last : o ≡ before ++ (0 ∷ [])
  pub others : Memᴰ 0 before → ⊥
  pub faults : assembly_faults b o ≡ map foreign_enum_fault (enums_of b before) ++ main_fault b
  -- 27 exactly when unit 0 has no function `main` at its top
  pub main_only : Memᴰ no_main_fault (assembly_faults b o) → has_main (items_of b 0) ≡ false
  pub main_always : has_main (items_of b 0) ≡ false → Memᴰ no_main_fault (assembly_faults b o)
  -- 28 with a mark exactly when another unit has an enum of that mark, at any depth
  pub enum_only : (m : ℕ) → Memᴰ (foreign_enum_fault m) (assembly_faults b o) → ForeignEnum b o m
  pub enum_always : (m : ℕ) → ForeignEnum b o m → Memᴰ (foreign_enum_fault m) (assembly_faults b o)

module _ (b : Bundle) (w : WellFormed b) (o : List ℕ) (e : ordered b ≡ linked o) where
  -- a unit before 0 is linked and is another
  foreign : (p : List ℕ) → o ≡ p ++ (0 ∷ []) → (Memᴰ 0 p → ⊥) → (m : ℕ) → EnumIn b p m → ForeignEnum b o m
  foreign p q n m t = record {
    unit = t.unit;
    linked = subst (λ (l : List ℕ). Memᴰ t.unit l) (sym q) (mathlib.Core.List.Memᴰ.append_left _ t.linked);
    other = λ z. n (subst (λ (u : ℕ). Memᴰ u p) z t.linked);
    declared = t.declared;
  }

  pub assembly : Assembled b o
  unfolding local_items
  assembly =
      let z = zero-last b o e in
      let i = ids b w o e in
      let n : Memᴰ 0 z.before → ⊥ = once_last z.before (subst graph.Once z.is i.once) in
      let f : assembly_faults b o ≡ map foreign_enum_fault (enums_of b z.before) ++ main_fault b = ap (assembly_faults b) z.is ∙ faults-are b z.before n in
      record {
        modules = private-modules b o;
        names = module_names_lem b o;
        different = names-once i.once;
        all_units = i.all;
        only_units = i.below;
        holds = module_items_lem b o;
        kept_items = λ u d. headings-kept (rewrite_use b (file_of b u)) d (items_of b u);
        kept_uses = λ u. uses-rewritten (rewrite_use b (file_of b u)) (items_of b u);
        uses_found = rewritten_use b w o e;
        before = z.before;
        last = z.is;
        others = n;
        faults = f;
        main_only = λ m. no_main-only b z.before (subst (λ (l : List Fault). Memᴰ no_main_fault l) f m);
        main_always = λ h. subst (λ (l : List Fault). Memᴰ no_main_fault l) (sym f) (no_main_always b z.before h);
        enum_only = λ m h.
            foreign z.before z.is n m (enum_only b z.before m (subst (λ (l : List Fault). Memᴰ (foreign_enum_fault m) l) f h));
        enum_always = λ m t.
            subst (λ (l : List Fault). Memᴰ (foreign_enum_fault m) l) (sym f)
            (enum_always b z.before m t.unit (⊎_elim (λ x. x) (λ q. absurd (t.other q)) (mem_snoc z.before (subst (λ (l : List ℕ). Memᴰ t.unit l) z.is t.linked))) t.declared);
      }

-- of the value of every bundle that is not refused
pub assembly_read : (s : List ℕ) → Bytes s → (b : Bundle) → read s ≡ value b → (o : List ℕ) → ordered b ≡ linked o → Assembled b o
assembly_read s B b h o e = assembly b (sound s B b h).1 o e

-- THE OUTCOME OF STEPS 3 TO 5
no_program : {l : List Fault} {o : List ℕ} {p : Items} → faulty l ≡ program o p → ⊥
no_program e = let z : ◌≡◌ {A = ℕ} 0 1 = cc in omega arith

-- the parts of a program
abbrev pub ids_in : Outcome → List ℕ
ids_in x = result_or (λ (q : Built). q.ids) [] x

abbrev pub items_in : Outcome → Items
items_in x = result_or (λ (q : Built). q.items) none x

-- a program is the assembled one of the linked order, and step 5 told nothing
pub record Program (b : Bundle) (o : List ℕ) (p : Items) : Type 0 where
  pub order : ordered b ≡ linked o
  pub is : p ≡ assembled b o
  pub faultless : assembly_faults b o ≡ []

pub program-only : (b : Bundle) (o : List ℕ) (p : Items) → linearize_and_assemble b ≡ program o p → Program b o p
unfolding linearize_and_assemble
program-only b o p e = go (ordered b) refl e
  where
    step : (k : List ℕ) → ordered b ≡ linked k → (fs : List Fault) → assembly_faults b k ≡ fs → step5 fs k (assembled b k) ≡ program o p → Program b o p
    step k h [] t q =
        let r : k ≡ o = ap ids_in q in
        let s : assembled b k ≡ p = ap items_in q in
        record {
          order = h ∙ ap linked r;
          is = sym s ∙ ap (assembled b) r;
          faultless = ap (assembly_faults b) (sym r) ∙ t;
        }
    step k h (f ∷ fs) t q = absurd (no_program q)

    go : (x : steps.Outcome (List ℕ)) → ordered b ≡ x → assemble_after b x ≡ program o p → Program b o p
    go (faulty l) h q = absurd (no_program q)
    go (closed r) h q = let z : ◌≡◌ {A = ℕ} 0 1 = cc in absurd (omega arith)
    go (ended n m) h q = absurd (never_ended b n m h)
    go (result k) h q = step k h (assembly_faults b k) refl q

-- and where step 5 tells nothing there is one
pub program_always : (b : Bundle) (o : List ℕ) → ordered b ≡ linked o → assembly_faults b o ≡ [] → linearize_and_assemble b ≡ program o (assembled b o)
unfolding linearize_and_assemble
program_always b o e f = rw (e, f)

-- discovery's faults and a ring are told as they are, and nothing of step 5
pub faults-first : (b : Bundle) (l : List Fault) → ordered b ≡ faulty l → linearize_and_assemble b ≡ faulty l
unfolding linearize_and_assemble
faults-first b l e = rw e

pub ring-first : (b : Bundle) (r : List ℕ) → ordered b ≡ closed r → linearize_and_assemble b ≡ closed r
unfolding linearize_and_assemble
ring-first b r e = rw e

-- FAULTS AND RINGS
-- faults that are told: discovery's or, of a linked order, those of step 5; one at least
pub data FaultsFrom (b : Bundle) (l : List Fault) : Type 0 where
  of_discovery : l ≡ faults_of b → FaultsFrom b l
  of_step5 : (o : List ℕ) → ordered b ≡ linked o → l ≡ assembly_faults b o → FaultsFrom b l

pub record FaultsMet (b : Bundle) (l : List Fault) : Type 0 where
  pub from : FaultsFrom b l
  pub some : l ≡ [] → ⊥

-- of the value of every bundle that is not refused
module _ (s : List ℕ) (b : Bundle) (v : read s ≡ value b) where
  -- faults are told only then, and always then
  pub faults-only : (l : List Fault) → linearize_and_assemble b ≡ faulty l → FaultsMet b l
  unfolding linearize_and_assemble
  faults-only l e = go (ordered b) refl e
    where
      fifth : (o : List ℕ) → ordered b ≡ linked o → (fs : List Fault) → assembly_faults b o ≡ fs → step5 fs o (assembled b o) ≡ faulty l → FaultsMet b l
      fifth o q [] t h = absurd (no_program (sym h))
      fifth o q (f ∷ fs) t h =
          let z : f ∷ fs ≡ l = cc in
          record { from = of_step5 o q (sym z ∙ sym t); some = λ n. let y : ◌≡◌ {A = List Fault} (f ∷ fs) [] = z ∙ n in let w : ◌≡◌ {A = ℕ} 0 1 = cc in omega arith }

      go : (x : steps.Outcome (List ℕ)) → ordered b ≡ x → assemble_after b x ≡ faulty l → FaultsMet b l
      go (faulty k) q h =
          let z : k ≡ l = cc in
          let f = (first_half_read s b v).faults k q in
          record { from = of_discovery (sym z ∙ f.0); some = λ n. f.1 (z ∙ n) }
      go (closed r) q h = let z : ◌≡◌ {A = ℕ} 0 1 = cc in absurd (omega arith)
      go (ended n p) q h = absurd (never_ended b n p q)
      go (result o) q h = fifth o q (assembly_faults b o) refl h

  pub faults_always : (l : List Fault) → FaultsMet b l → linearize_and_assemble b ≡ faulty l
  unfolding linearize_and_assemble
  faults_always l m = go m.from
    where
      fifth : (o : List ℕ) (fs : List Fault) → l ≡ fs → step5 fs o (assembled b o) ≡ faulty l
      fifth o [] q = absurd (m.some q)
      fifth o (f ∷ fs) q = ap faulty (sym q)

      go : FaultsFrom b l → assemble_after b (ordered b) ≡ faulty l
      go (of_discovery q) = ap (assemble_after b) (order-faults b (λ n. m.some (q ∙ n))) ∙ ap faulty (sym q)
      go (of_step5 o e q) = ap (assemble_after b) e ∙ fifth o (assembly_faults b o) q

  -- and so is a ring
  pub ring_only : (r : List ℕ) → linearize_and_assemble b ≡ closed r → RingMet b r
  unfolding linearize_and_assemble
  ring_only r e = go (ordered b) refl e
    where
      fifth : (fs : List Fault) (o : List ℕ) (p : Items) → step5 fs o p ≡ closed r → ⊥
      fifth [] o p h = let z : ◌≡◌ {A = ℕ} 0 1 = cc in omega arith
      fifth (f ∷ fs) o p h = let z : ◌≡◌ {A = ℕ} 0 1 = cc in omega arith

      go : (x : steps.Outcome (List ℕ)) → ordered b ≡ x → assemble_after b x ≡ closed r → RingMet b r
      go (faulty k) q h = let z : ◌≡◌ {A = ℕ} 0 1 = cc in absurd (omega arith)
      go (closed k) q h = let z : k ≡ r = cc in subst (RingMet b) z (ring-met-only s b v k q)
      go (ended n p) q h = absurd (never_ended b n p q)
      go (result o) q h = absurd (fifth (assembly_faults b o) o (assembled b o) h)

  pub ring_always : faults_of b ≡ [] → ImportEachOther b → (r : List ℕ) × ((linearize_and_assemble b ≡ closed r) × RingMet b r)
  ring_always c x = let q = ring-met_always s b v c x in (q.0, (ring-first b q.0 q.1.0, q.1.1))

-- no step of these refuses
pub never_refused : (b : Bundle) (n p : ℕ) → linearize_and_assemble b ≡ ended n p → ⊥
unfolding linearize_and_assemble
never_refused b n p e = go (ordered b) refl e
  where
    fifth : (fs : List Fault) (o : List ℕ) (q : Items) → step5 fs o q ≡ ended n p → ⊥
    fifth [] o q h = let z : ◌≡◌ {A = ℕ} 0 1 = cc in omega arith
    fifth (f ∷ fs) o q h = let z : ◌≡◌ {A = ℕ} 0 1 = cc in omega arith

    go : (x : steps.Outcome (List ℕ)) → ordered b ≡ x → assemble_after b x ≡ ended n p → ⊥
    go (faulty l) q h = let z : ◌≡◌ {A = ℕ} 0 1 = cc in omega arith
    go (closed r) q h = let z : ◌≡◌ {A = ℕ} 0 1 = cc in omega arith
    go (ended k m) q h = never_ended b k m q
    go (result o) q h = fifth (assembly_faults b o) o (assembled b o) h

-- A LINKED BUNDLE HAS A PROGRAM exactly when unit 0 has a function `main` at its top and no other unit has an enum
pub record Sound (b : Bundle) (o : List ℕ) : Type 0 where
  pub main : has_main (items_of b 0) ≡ true
  pub no_enum : (m : ℕ) → ForeignEnum b o m → ⊥

nothing_in : {A : Type 0} (l : List A) → ((a : A) → Memᴰ a l → ⊥) → l ≡ []
nothing_in [] f = refl
nothing_in (a ∷ l) f = absurd (f a (mathlib.Core.List.Memᴰ.head refl))

module _ (b : Bundle) (w : WellFormed b) (o : List ℕ) (e : ordered b ≡ linked o) where
  pub sound-program : Sound b o → linearize_and_assemble b ≡ program o (assembled b o)
  sound-program s =
      let a = assembly b w o e in
      let none_of : enums_of b a.before ≡ [] = nothing_in (enums_of b a.before) (λ m h.
      s.no_enum m (foreign b w o e a.before a.last a.others m (enum-found b a.before m h))) in
      program_always b o e (a.faults ∙ rw (none_of, main-there b s.main))

  pub program-sound : (p : Items) → linearize_and_assemble b ≡ program o p → Sound b o
  program-sound p h =
      let a = assembly b w o e in
      let f = (program-only b o p h).faultless in
      record {
        main = has (has_main (items_of b 0)) refl (λ q. mathlib.Core.List.Memᴰ.not-nil (subst (λ (l : List Fault). Memᴰ no_main_fault l) f (a.main_always q)));
        no_enum = λ m t. mathlib.Core.List.Memᴰ.not-nil (subst (λ (l : List Fault). Memᴰ (foreign_enum_fault m) l) f (a.enum_always m t));
      }
    where
      has : (t : Bool) → has_main (items_of b 0) ≡ t → (has_main (items_of b 0) ≡ false → ⊥) → has_main (items_of b 0) ≡ true
      has true q n = q
      has false q n = absurd (n q)
