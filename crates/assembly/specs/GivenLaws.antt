-- Laws of the units of a linked order as the code has them. Assumes nothing.
use Rattle.std.specs.Prelude.{ℕ, suc, ◌+◌, ◌≤◌, ◌<◌, Bool, true, false, cond, ◌≡◌, refl, eqb, length, get_or, take, drop}
use Rattle.std.proofs.Common.{add-one, arith, sym, ap, subst, ◌∙◌, length-append, eq-eqb, ne_eqb, drop_of_length-le}
use mathlib.Core.List.{List, [], ◌∷◌, ◌++◌, map, append-nil, Memᴰ}
use Rattle.std.proofs.lemmas.List.{length-map, length-take}
use Rattle.std.proofs.Math.ListN.{get_or-map}
use lib.Seq.{length-take-le, get_or-take, drop-cons, take-take}
use Rattle.std.proofs.Math.Seq.{take-length}
use Rattle.names.specs.Bytes.{same, same-eq, same_differs, different}
use Rattle.names.specs.Decimal.{unit_name}
use Rattle.bundle.specs.Bundle.{Text, File, Bundle}
use Rattle.bundle.specs.Limits.{file_limit, depth_limit, module_kind}
use Rattle.bundle.specs.Encode.{string, items}
use Rattle.bundle.specs.Stand.{Bytes}
use Rattle.bundle.specs.Decode.{decode, file_at, items_at}
use Rattle.bundle.specs.Read.{verdict}
use Rattle.bundle.specs.Theorems.{sound, accepted}
use Rattle.bundle.specs.Results.{Ok}
use Rattle.resolution.specs.Lists.{lists_of}
use Rattle.resolution.specs.Call.{position}
use Rattle.discovery.specs.Discovery.{program_of, paths_of}
use Rattle.discovery.specs.Facts.{member_true, member_false, get_d_mem, get_d_any, pigeons, id-found}
use Rattle.discovery.specs.Right.{discovered}
use Rattle.discovery.specs.Room.{checked-roomy}
use Rattle.discovery.specs.Search.{index_in}
use Rattle.discovery.specs.declared.known.Known.{Known}
use Rattle.discovery.specs.Known.{Row, row_put}
use Rattle.driver.specs.Complete.{Carries}
use Rattle.discovery.specs.Weight.{reached-file}
use Rattle.order.specs.Run.{linked, units_of}
use Rattle.order.specs.Call.{unit_files}
use Rattle.order.specs.Theorems.{LinkedIds, first_half}
use Rattle.assembly.specs.Assemble.{file_of, items_of, local_items, assembled}
use Rattle.encoder.specs.Parts.{head_bytes}
use Rattle.assembly.specs.Paths.{program-formed}
use Rattle.assembly.specs.Targets.{UnitOf, file_uses}
use Rattle.assembly.specs.Walk.{items_bytes, item-form, Brief, formed_brief}
use Rattle.assembly.specs.Given.{OneUnit, PlacedUnit, OrderGiven, OrderedFilesGiven, UnitsGiven, program_bytes, unit_bytes}

-- A UNIT'S FILE is listed
pub unit-listed : (b : Bundle) (p : Text) → Memᴰ p (units_of b) → Memᴰ p (paths_of b)
unit-listed b p m = reached-file b p ((discovered b).sound p m)

-- the items of a file, by its place
program-at : (fs : List File) (p : Text) (d : File) → Memᴰ p (map (λ (f : File). f.path) fs) → program_of fs p ≡ (get_or fs (position p (map (λ (f : File). f.path) fs)) d).items
unfolding program_of position
program-at [] p d m = absurd (mathlib.Core.List.Memᴰ.not-nil m)
program-at (f ∷ fs) p d m = go (same p f.path) refl (program-at fs p d)
  where
    go : (t : Bool) → same p f.path ≡ t → (Memᴰ p (map (λ (g : File). g.path) fs) → program_of fs p ≡ (get_or fs (position p (map (λ (g : File). g.path) fs)) d).items)
        → cond t f.items (program_of fs p) ≡ (get_or (f ∷ fs) (cond t 0 (suc (position p (map (λ (g : File). g.path) fs)))) d).items
    go true e k = refl
    go false e k = k (mathlib.Core.Logic.⊎_elim (λ q. absurd (same_differs p f.path e q)) (λ w. w) (mathlib.Core.List.Memᴰ.cases_cons m))

module _ (s files : List ℕ) (u : ℕ) (x : OneUnit s files u) where
  abbrev b : Bundle
  b = decode s

  listed : Memᴰ (file_of b u) (paths_of b)
  listed = unit-listed b (file_of b u) (get_d_mem (units_of b) u [] x.is_unit)

  pub index_below : get_or files u 0 < length b.files
  index_below = let p = (id-found (file_of b u) (paths_of b) listed).0 in let i = x.index in omega (arith, length-map b.files (λ (f : File). f.path))

  pub index-few : get_or files u 0 < file_limit
  index-few = let r = (checked-roomy s x.checked).files in let i = index_below in omega arith

  module _ (place : ℕ) (found : (d : File) → get_or files u 0 < length b.files → get_or b.files (get_or files u 0) d ≡ file_at s place) where
    here : (d : File) → get_or b.files (position (file_of b u) (paths_of b)) d ≡ file_at s place
    here d = ap (λ (i : ℕ). get_or b.files i d) (sym x.index) ∙ found d index_below

    pub items_are : (file_at s place).items ≡ items_of b u
    items_are = sym (program-at b.files (file_of b u) (file_at s place) listed ∙ ap (λ (f : File). f.items) (here (file_at s place)))

    pub path-is : (file_at s place).path ≡ file_of b u
    path-is =
        let i = id-found (file_of b u) (paths_of b) listed in
        sym (sym i.1 ∙ (get_d_any (paths_of b) (position (file_of b u) (paths_of b)) [] (file_at s place).path i.0 ∙ (get_or-map (λ (f : File). f.path) b.files (position (file_of b u) (paths_of b)) (file_at s place) ∙ ap (λ (f : File). f.path) (here (file_at s place)))))

-- IDS are places among the units' files
index-units : (p : Text) (paths l : List Text) → Memᴰ p paths → ((q : Text) → Memᴰ q l → Memᴰ q paths) → position p l ≡ index_in (position p paths) (map (λ q. position q paths) l)
unfolding position index_in
index-units p paths [] m h = refl
index-units p paths (q ∷ l) m h = go (same p q) refl (index-units p paths l m (λ r w. h r (mathlib.Core.List.Memᴰ.tail w)))
  where
    go : (t : Bool) → same p q ≡ t → position p l ≡ index_in (position p paths) (map (λ r. position r paths) l)
        → cond t 0 (suc (position p l)) ≡ cond (eqb (position q paths) (position p paths)) 0 (suc (index_in (position p paths) (map (λ r. position r paths) l)))
    go true e ih = let z = same-eq p q e in rw (eq-eqb (position q paths) (position p paths) (ap (λ (r : Text). position r paths) (sym z)))
    go false e ih =
        let n : position q paths ≡ position p paths → ⊥ =
        λ i. same_differs p q e (sym (id-found p paths m).1 ∙ (ap (λ (k : ℕ). get_or paths k []) (sym i) ∙ (id-found q paths (h q (mathlib.Core.List.Memᴰ.head refl))).1)) in
        rw (ne_eqb (position q paths) (position p paths) n, ih)

no_unit : (p : Text) (l : List Text) → (Memᴰ p l → ⊥) → position p l ≡ length l
unfolding position
no_unit p [] n = refl
no_unit p (q ∷ l) n = rw (different p q (λ e. n (mathlib.Core.List.Memᴰ.head e)), no_unit p l (λ m. n (mathlib.Core.List.Memᴰ.tail m)))

-- how many units there are
module _ (s files : List ℕ) (units : ℕ) (checked : verdict s ≡ Ok) (are : take units files ≡ unit_files (decode s)) (fits : units ≤ length files) where
  pub counted-units : length (units_of (decode s)) ≡ units
  counted-units = sym (length-map (units_of (decode s)) (λ p. position p (paths_of (decode s)))) ∙ (ap length (sym are) ∙ length-take-le units files fits)

  counted-few : units ≤ file_limit
  counted-few =
      let n = pigeons (discovered (decode s)).once (paths_of (decode s)) (λ p m. unit-listed (decode s) p m) in
      let r = (checked-roomy s checked).files in
      let k = counted-units in
      omega (arith, length-map (decode s).files (λ (f : File). f.path))

  pub unit-there : (u : ℕ) → u < units → OneUnit s files u
  unit-there u h =
      let n = counted-units in
      let l : u < length (units_of (decode s)) = omega arith in
      record {
        checked = checked;
        fits = omega arith;
        is_unit = l;
        index =
            sym (get_or-take units files u 0 h)
            ∙ (ap (λ (k : List ℕ). get_or k u 0) are
            ∙ (get_d_any (unit_files (decode s)) u 0 (position [] (paths_of (decode s))) (omega (arith, length-map (units_of (decode s)) (λ p. position p (paths_of (decode s)))))
            ∙ get_or-map (λ p. position p (paths_of (decode s))) (units_of (decode s)) u []));
      }

-- A TABLE with the files of the units
abbrev pub with_files : Known → List ℕ → Known
with_files t files = record t { files = files }

pub known-linked : {s files ids : List ℕ} {t : Known} {units : ℕ} → OrderedFilesGiven s files ids units → Carries s t → OrderGiven s (with_files t files) ids units
known-linked {s} {files} {ids} {t} {units} x y =
    let u = x.of_units in
    record {
      of_units = record {
        checked = u.checked;
        files_are = u.files_are;
        fits = u.fits;
        known = let k = y.known u.checked in
            record { complete = record { rows = λ q m. row_put t files _ _ _ _ (k.complete.rows q m) }; rise = k.rise };
        places = let p = y.places u.checked in record { small = p.small; stands = p.stands };
      };
      order = x.order;
      ids_fit = x.ids_fit;
    }

-- the ids that are there, as a slice
pub given-cut : {s ids : List ℕ} {k : Known} {units : ℕ} → OrderGiven s k ids units → OrderGiven s k (take units ids) (length (take units ids))
given-cut {s} {ids} {k} {units} x =
    let n = length-take-le units ids x.ids_fit in
    subst (OrderGiven s k (take units ids)) (sym n)
    (record { of_units = x.of_units; order = x.order ∙ ap linked (sym (take-take units units ids (omega arith))); ids_fit = omega arith })

module _ (s : List ℕ) (k : Known) (units : ℕ) (x : UnitsGiven s k units) where
  abbrev files : List ℕ
  files = k.files

  abbrev c : Bundle
  c = decode s

  pub unit-count : length (units_of c) ≡ units
  unit-count = counted-units s files units x.checked x.files_are x.fits

  pub few-units : units ≤ file_limit
  few-units = counted-few s files units x.checked x.files_are x.fits

  pub one_unit : (u : ℕ) → u < units → OneUnit s files u
  one_unit u h = unit-there s files units x.checked x.files_are x.fits u h

  pub placed-unit : (u : ℕ) → u < units → PlacedUnit s k u
  placed-unit u h = record { of_unit = one_unit u h; places = x.places }

  pub unit-of : (u : ℕ) → u < units → UnitOf s k units u
  unit-of u h =
      let one = one_unit u h in
      record {
        unit = h;
        fits = x.fits;
        few = few-units;
        ids = λ p m. index-units p (paths_of c) (units_of c) (member_true p (paths_of c) m) (unit-listed c) ∙ ap (index_in (position p (paths_of c))) (sym x.files_are);
        place = index-few s files u one;
        table = subst (λ (i : ℕ). Row k i (lists_of c) (file_of c u) (file_uses s (file_of c u))) (sym one.index) (x.known.complete.rows (file_of c u) (get_d_mem (units_of c) u [] one.is_unit));
        rise = x.known.rise (file_of c u);
        others = λ p m. no_unit p (units_of c) (λ w. member_false m (unit-listed c p w)) ∙ unit-count;
      }

-- what is in a unit is in form
pub unit_brief : (s : List ℕ) → Bytes s → {k : Known} {u : ℕ} → PlacedUnit s k u → (end at : ℕ) → items_at depth_limit s end at ≡ items_of (decode s) u
    → Brief (file_uses s (file_of (decode s) u)) (items_at depth_limit s end at)
unit_brief s B {k} {u} x end at q =
    let c = decode s in
    rw q (formed_brief (file_uses s (file_of c u)) (items_of c u) depth_limit (program-formed c.files (file_of c u) (sound s B c (accepted s x.of_unit.checked)).1.form.files) (λ v m. m))

-- A UNIT IN THE IMAGE
-- by the items that the code reads
pub unit-form : (s : List ℕ) (u end at : ℕ) → items_at depth_limit s end at ≡ items_of (decode s) u
    → unit_bytes (decode s) u ≡ head_bytes (2 + length (string (unit_name u) ++ items_bytes s (file_of (decode s) u) depth_limit end at)) module_kind 0 ++ (string (unit_name u) ++ items_bytes s (file_of (decode s) u) depth_limit end at)
unfolding unit_bytes items items_bytes local_items
unit-form s u end at i = rw i (item-form module_kind 0 (string (unit_name u) ++ items (local_items (decode s) u)))

pub unit-room : (b : Bundle) (u : ℕ) → 4 + length (string (unit_name u)) ≤ length (unit_bytes b u)
unfolding unit_bytes items
unit-room b u =
    let body = string (unit_name u) ++ items (local_items b u) in
    let e = ap length (item-form module_kind 0 body) in
    omega (arith, length-append (string (unit_name u)) (items (local_items b u)))

pub program-none : (b : Bundle) → program_bytes b [] ≡ []
unfolding program_bytes assembled items
program-none b = refl

pub program-one : (b : Bundle) (u : ℕ) (o : List ℕ) → program_bytes b (u ∷ o) ≡ unit_bytes b u ++ program_bytes b o
unfolding program_bytes unit_bytes assembled items
program-one b u o = rw append-nil

-- A PROGRAM'S UNITS
module _ {s : List ℕ} {known : Known} {ids : List ℕ} (x : OrderGiven s known ids (length ids)) where
  pub placed : (u : ℕ) → u < length ids → PlacedUnit s known u
  placed = placed-unit s known (length ids) x.of_units

  pub among : (u : ℕ) → u < length ids → UnitOf s known (length ids) u
  among = unit-of s known (length ids) x.of_units

  -- each id is one of them
  pub below : (i : ℕ) → i < length ids → get_or ids i 0 < length ids
  below i h =
      let r = (checked-roomy s x.of_units.checked).some in
      let l : LinkedIds (decode s) ids = (first_half (decode s) r).ids ids (x.order ∙ ap linked (take-length ids)) in
      let c = unit-count s known (length ids) x.of_units in
      let q = l.below (get_or ids i 0) (get_d_mem ids i 0 h) in
      omega arith

  pub below_first : (m i : ℕ) → i < length (take m ids) → get_or (take m ids) i 0 < length ids
  below_first m i h =
      let n = length-take m ids in
      rw (get_or-take m ids i 0 (omega arith)) (below i (omega arith))

-- IN THEIR ORDER
pub order-step : (b : Bundle) (ids : List ℕ) (i : ℕ) → i < length ids → program_bytes b (drop i ids) ≡ unit_bytes b (get_or ids i 0) ++ program_bytes b (drop (i + 1) ids)
order-step b ids i h = ap (program_bytes b) (drop-cons ids i 0 h ∙ ap (λ (k : ℕ). get_or ids i 0 ∷ drop k ids) (sym (add-one i))) ∙ program-one b (get_or ids i 0) (drop (i + 1) ids)

pub order-end : (b : Bundle) (ids : List ℕ) (i : ℕ) → length ids ≤ i → program_bytes b (drop i ids) ≡ []
order-end b ids i h = ap (program_bytes b) (drop_of_length-le ids h) ∙ program-none b
