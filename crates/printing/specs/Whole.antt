-- The lines of what the linker answers are the specification's, of any bytes. Assumes nothing.
use Rattle.std.specs.Prelude.{ℕ, ◌≤◌, ◌<◌, Bool, cond, ◌≡◌, eqb, take, replicate}
use native.Mathlib.Omega.{arith}
use Rattle.std.proofs.Math.Bool.{true, false}
use Rattle.std.proofs.Common.{⊎_elim, ◌∙◌, get_or-take}
use Rattle.std.proofs.Math.Path.{refl, sym, ap, subst}
use mathlib.Core.List.Memᴰ
use mathlib.Core.List.{List, [], ◌∷◌, ◌++◌, map, Memᴰ}
use Rattle.std.proofs.Math.Dec.{leb}
use Rattle.std.proofs.Math.ListN.{length, get_or, length-map}
use Rattle.std.proofs.lemmas.List.{length-replicate}
use Rattle.std.proofs.Math.Seq.{length-take-le}
use borrow.Author.Tests.{leb-true, leb-false}
use Rattle.bundle.specs.Bundle.{Items, none, named, use_of, module_of, ignored, Bundle}
use Rattle.bundle.specs.Decode.{decode}
use Rattle.bundle.specs.Form.{WellFormed}
use Rattle.bundle.specs.Read.{refused, verdict, read}
use Rattle.bundle.specs.Stand.{Bytes}
use Rattle.bundle.specs.Theorems.{accepted, told, sound}
use Rattle.bundle.specs.Results.{Checked}
use Rattle.bundle.specs.Results.{Ok, Refused}
use Rattle.names.specs.Bytes.{ascii}
use Rattle.names.specs.Decimal.{decimal}
use Rattle.resolution.specs.Call.{position}
use Rattle.discovery.specs.Discovery.{Fault, Use, uses, paths_of}
use Rattle.discovery.specs.Facts.{get_d_mem}
use Rattle.discovery.specs.Room.{checked-roomy}
use Rattle.order.specs.Run.{ordered, units_of}
use Rattle.order.specs.Run as order
use Rattle.order.specs.Theorems.{first_half, ring-met_always}
use Rattle.order.specs.Exact.{fault-numbers, place-small, ring_exact}
use Rattle.order.specs.Report.{Record, fault, ring, ring_met, report_bytes, report_length, reporting, lent_report}
use Rattle.order.specs.Report as report
use Rattle.order.specs.Results.{Reported}
use Rattle.order.specs.Call.{unit_files, padded, order_answer, order_report}
use Rattle.order.specs.Call as call
use Rattle.scope_tree.specs.Flat.{Flat, Entry}
use Rattle.scope_tree.specs.Trees.{flat_of, cleared}
use Rattle.scope_tree.specs.declared.Tree.{Tree}
use Rattle.assembly.specs.Assemble.{enum_kind, items_of, enum_declarations, foreign_enum_fault, has_main, no_main_fault}
use Rattle.assembly.specs.Image.{imaging, image_length, items_length, image_limit, long_image}
use Rattle.assembly.specs.Image as image
use Rattle.assembly.specs.Call.{refusing, reported_to, imaged_to}
use Rattle.assembly.specs.Faults.{zero-last, enums_of, main_fault, enum-found}
use Rattle.assembly.specs.Given.{FilesGiven, OrderedFilesGiven, OneUnit}
use Rattle.assembly.specs.GivenLaws.{unit-there}
use Rattle.assembly.specs.Join.{units-linked}
use Rattle.assembly.specs.Theorems.{assembly, program-only, ring-first, FaultsFrom, of_discovery, of_step5}
use Rattle.order.specs.Results.{Answer}
use Rattle.assembly.specs.Results.{Imaged}
use Rattle.assembly.specs.Results as imaged
use Rattle.scope_walk.specs.Steps.{Plain}
use Rattle.scope_walk.specs.Fit.{unit-plain}
use Rattle.linker.specs.Link.{Outcome, faulty, closed, ended, result, linked, link_after, link_bundle}
use Rattle.linker.specs.Theorems.{linked_steps, faults-only, ring_only}
use Rattle.linker.specs.Call.{records_of, answering, TreeWith, TreeAfter, link_answer, link_report, LinkTree}
use Rattle.text.specs.Words.{Text, lines, no_line}
use Rattle.printing.specs.Lines.{unit_line, linked_lines, fault_line, ring_lines, outcome_lines, reading_lines}
use Rattle.tree_lines.specs.Entries.{has_lines}
use Rattle.printing.specs.Reports.{report_lines}
use Rattle.text.specs.LineLaws.{lines-append}
use Rattle.printing.specs.Reported.{Tellable, faults-length, faults_reported, first-no_ring, ring-length, ring_reported}
use Rattle.printing.specs.Room.{report-fits}
use Rattle.printing.specs.Answers.{LinkedLines, Lined, AnswerLines}
use Rattle.printing.specs.Sizes.{report_size, image_size}

-- a number and a place alone
number_alone : (s : List ℕ) (n p : ℕ) (rep : List ℕ) (T : Tree → Type 0) → Lined s (refusing n p) rep T (no_line n p ∷ [])
number_alone s n p rep T = record { linked = λ h. absurd (h refl); report = λ e k. absurd (k refl); number = λ e k. refl }

-- 1 TO 13
pub turned_back : (s rep img : List ℕ) (t : Tree) (n p : ℕ) → read s ≡ refused n p → AnswerLines s rep img t (reading_lines (read s))
unfolding link_answer link_report LinkTree reading_lines
turned_back s rep img t n p e = rw e (number_alone s n p rep (λ u. u ≡ t))

-- LINKED
-- a unit of the answer is a listed file
one : (s files : List ℕ) (units : ℕ) → FilesGiven s files units → (u : ℕ) → u < units → OneUnit s files u
one s files units x u h = unit-there s files units x.checked x.files_are x.fits u h

module _ (s rep img : List ℕ) (v : verdict s ≡ Ok) (o : List ℕ) (e : ordered (decode s) ≡ order.linked o) where
  abbrev b : Bundle
  b = decode s

  zero_in : Memᴰ 0 o
  zero_in = let q = zero-last b o e in subst (λ (l : List ℕ). Memᴰ 0 l) (sym q.is) (Memᴰ.append_right q.before (Memᴰ.head refl))

  some-units : length (unit_files b) ≡ 0 → ⊥
  some-units z = omega (arith, ((first_half b (checked-roomy s v).some).ids o e).below 0 zero_in, length-map (units_of b) (λ p. position p (paths_of b)))

  answer-is : order_answer s rep ≡ call.linking (unit_files b) (padded o)
  unfolding order_answer
  answer-is = rw (accepted s v, e)

  files_are : OrderedFilesGiven s (padded (unit_files b)) (padded o) (length (unit_files b))
  files_are =
      subst (λ (a : Answer). OrderedFilesGiven s a.files a.ids a.units) answer-is
      (units-linked s rep img (order_answer s rep) (order_report s rep) refl refl (λ z. some-units (sym (ap (λ (a : Answer). a.units) answer-is) ∙ z))).0

  order_is : take (length (unit_files b)) (padded o) ≡ o
  order_is = let q : order.linked (take (length (unit_files b)) (padded o)) ≡ order.linked o = sym files_are.order ∙ e in cc

  pub lines-linked : (m : ℕ) (u : Tree) (l : List Entry) → (flat_of u).entries ≡ l
      → LinkedLines s (imaged_to (length (unit_files b)) (padded (unit_files b)) (padded o) (imaged.Image m)) u (linked_lines (units_of b) o l)
  unfolding lines
  lines-linked m u l q = record {
    fits = files_are.ids_fit;
    units = λ j h. one s (padded (unit_files b)) (length (unit_files b)) files_are.of_units (get_or (padded o) j 0) (below j h);
    is =
        ap (λ (k : List ℕ). lines ((ascii "ok" ∷ decimal (length k) ∷ []) ∷ map (unit_line (units_of b)) k) ++ lines (has_lines (flat_of u).entries (flat_of u).entries)) order_is
        ∙ (ap (λ (k : List Entry). lines ((ascii "ok" ∷ decimal (length o) ∷ []) ∷ map (unit_line (units_of b)) o) ++ lines (has_lines k k)) q
        ∙ sym (lines-append ((ascii "ok" ∷ decimal (length o) ∷ []) ∷ map (unit_line (units_of b)) o) (has_lines l l)));
  }
    where
      below : (j : ℕ) → j < length (unit_files b) → get_or (padded o) j 0 < length (unit_files b)
      below j h =
          let n = length-take-le (length (unit_files b)) (padded o) files_are.ids_fit in
          let z = ap length order_is in
          let w : get_or (padded o) j 0 ≡ get_or o j 0 = sym (get_or-take (length (unit_files b)) (padded o) j 0 h) ∙ ap (λ (k : List ℕ). get_or k j 0) order_is in
          let i = ((first_half b (checked-roomy s v).some).ids o e).below (get_or o j 0) (get_d_mem o j 0 (omega arith)) in
          omega (arith, length-map (units_of b) (λ p. position p (paths_of b)))

-- A REPORT of an accepted bundle can tell each of its faults
-- two bytes hold the mark of an enum
enum-small : (us : List Use) (x : Items) → Plain us x → (m : ℕ) → Memᴰ m (enum_declarations x) → m < 65536
unfolding Plain enum_declarations
enum-small us none h m k = absurd (Memᴰ.not-nil k)
enum-small us (named head rest) h m k = go (eqb head.kind enum_kind) (enum-small us rest h.1 m) k
  where
    go : (c : Bool) → (Memᴰ m (enum_declarations rest) → m < 65536) → Memᴰ m (cond c (head.mark ∷ enum_declarations rest) (enum_declarations rest)) → m < 65536
    go true f i = let z = h.0 in ⊎_elim (λ e. omega arith) f (Memᴰ.cases_cons i)
    go false f i = f i
enum-small us (use_of at v segments elements rest) h m k = enum-small us rest h.1 m k
enum-small us (module_of at v name inner rest) h m k =
    ⊎_elim (enum-small us inner h.1.0 m) (enum-small us rest h.1.1 m) (Memᴰ.append_cases (enum_declarations inner) k)
enum-small us (ignored at v rest) h m k = enum-small us rest h m k

main_tellable : (b : Bundle) (f : Fault) → Memᴰ f (main_fault b) → Tellable f
unfolding main_fault
main_tellable b f m = go (has_main (items_of b 0)) m
  where
    go : (c : Bool) → Memᴰ f (cond c [] (no_main_fault ∷ [])) → Tellable f
    go true i = absurd (Memᴰ.not-nil i)
    go false i =
        ⊎_elim
        (λ e. let n = ap (λ (g : Fault). g.number) e in
        let p = ap (λ (g : Fault). g.place) e in
        record { number = λ z. omega arith; place = omega arith })
        (λ w. absurd (Memᴰ.not-nil w)) (Memᴰ.cases_cons i)

pub tellable : (b : Bundle) → WellFormed b → (l : List Fault) → FaultsFrom b l → (f : Fault) → Memᴰ f l → Tellable f
tellable b w l (of_discovery q) f m =
    let i = subst (λ (k : List Fault). Memᴰ f k) q m in
    let n = fault-numbers b f i in
    record { number = λ z. omega arith; place = place-small b w f i }
tellable b w l (of_step5 o e q) f m =
    let a = assembly b w o e in
    ⊎_elim
    (λ i. let t = Memᴰ.of_map foreign_enum_fault (enums_of b a.before) i in
    let u = enum-found b a.before t.0 t.1 in
    let n = ap (λ (g : Fault). g.number) t.2 in
    let p = ap (λ (g : Fault). g.place) t.2 in
    let k = enum-small (uses (items_of b u.unit)) (items_of b u.unit) (unit-plain b w u.unit) t.0 u.declared in
    record { number = λ z. omega arith; place = omega arith })
    (main_tellable b f) (Memᴰ.append_cases (map foreign_enum_fault (enums_of b a.before)) (subst (λ (k : List Fault). Memᴰ f k) (q ∙ a.faults) m))

-- A REPORT THAT FITS
reported_lines : (s : List ℕ) (rs : List Record) (rep : List ℕ) (T : Tree → Type 0) (ls : List (List Text)) → report_length rs ≤ length rep → 0 < report_length rs
    → (get_or (report_bytes rs) 0 0 ≡ ring_met → 4 ≤ report_length rs) → report_lines (report_bytes rs) ≡ ls → Lined s (reported_to (reporting rs (length rep))) (lent_report rs rep) T ls
reported_lines s rs rep T ls h some whole x =
    let f = report.fits rs rep h in
    let first : get_or (report_bytes rs) 0 0 ≡ get_or (lent_report rs rep) 0 0 = ap (λ (l : List ℕ). get_or l 0 0) (sym f.written) ∙ get_or-take (report_length rs) (lent_report rs rep) 0 0 some in
    subst (λ (r : Reported). Lined s (reported_to r) (lent_report rs rep) T ls) (sym f.answered)
    (record {
      linked = λ k. absurd (k refl);
      report = λ e k. record { fits = rw (report.same_length rs rep) h; whole = λ q. whole (first ∙ q); is = ap report_lines f.written ∙ x };
      number = λ e k. absurd (omega arith);
    })

-- OF ACCEPTED BYTES, in buffers of the program's sizes
module _ (s : List ℕ) (B : Bytes s) (rep img : List ℕ) (rep-size : length rep ≡ report_size) (img-size : length img ≡ image_size) (t : Tree) (v : verdict s ≡ Ok) where
  well : WellFormed (decode s)
  well = (sound s B (decode s) (accepted s v)).1

  abbrev Due : Outcome → Type 0
  Due y =
      Lined s (answering (unit_files (decode s)) (length rep) (length img) y) (lent_report (records_of y) rep) (λ u. TreeAfter (length img) y t u) (outcome_lines (decode s) y)

  -- 26
  ring-due : (r : List ℕ) → link_bundle (decode s) ≡ closed r → Due (closed r)
  unfolding link_bundle outcome_lines
  ring-due r e =
      let m = ring_only s (decode s) (accepted s v) r e in
      let q = ring-met_always s (decode s) (accepted s v) m.faultless m.each_other in
      let z : closed q.0 ≡ closed r = sym (ap link_after (ring-first (decode s) q.0 q.1.0)) ∙ e in
      let k : q.0 ≡ r = cc in
      let x = ring_exact (decode s) well r (q.1.0 ∙ ap order.closed k) in
      let few = x.1 in
      let n = ring-length r in
      let fit : report_length (ring r ∷ []) ≤ length rep = omega arith in
      reported_lines s (ring r ∷ []) rep (λ u. u ≡ t) (ring_lines r) fit (omega arith) (λ q. omega arith) (ring_reported r x.0)

  -- 20 to 25, 27, 28
  faults-due : (l : List Fault) → link_bundle (decode s) ≡ faulty l → Due (faulty l)
  unfolding outcome_lines
  faults-due l e =
      let met = faults-only s (decode s) (accepted s v) l e in
      let n = faults-length l in
      let k = report-fits s B (decode s) (accepted s v) l e in
      let fit : report_length (map fault l) ≤ length rep = omega arith in
      reported_lines s (map fault l) rep (λ u. u ≡ t) (map fault_line l) fit (omega (arith, some l met.some)) (λ q. absurd (first-no_ring l (some l met.some) (tellable (decode s) well l met.from) q)) (faults_reported l (tellable (decode s) well l met.from))
    where
      some : (l : List Fault) → (l ≡ [] → ⊥) → 0 < length l
      some [] h = absurd (h refl)
      some (f ∷ l) h = omega arith

  -- a tree, or 15
  abbrev image_of : List ℕ → Imaged → Answer
  image_of o i = imaged_to (length (unit_files (decode s))) (padded (unit_files (decode s))) (padded o) i

  linked-due : (o : List ℕ) (p : Items) (x : Flat) → link_bundle (decode s) ≡ linked o p x → Due (linked o p x)
  unfolding outcome_lines
  linked-due o p x e = go (leb (items_length p) image_limit) refl
    where
      go : (c : Bool) → leb (items_length p) image_limit ≡ c
          → Lined s (image_of o (imaging p (length img))) (lent_report [] rep) (λ u. TreeWith (imaging p (length img)) x t u) (cond c (linked_lines (units_of (decode s)) o x.entries) (no_line long_image 0 ∷ []))
      go true h =
          let k = leb-true (items_length p) image_limit h in
          let q = program-only (decode s) o p (linked_steps (decode s) o p x e).assembled in
          subst (λ (i : Imaged). Lined s (image_of o i) (lent_report [] rep) (λ u. TreeWith i x t u) (linked_lines (units_of (decode s)) o x.entries)) (sym (image.fits p img k (omega arith)).answered)
          (record {
            linked = λ n u y. lines-linked s rep img v o q.order (image_length p) u x.entries (ap (λ (z : Flat). z.entries) y.is);
            report = λ z n. absurd (omega arith);
            number = λ z n. absurd (omega arith);
          })
      go false h =
          let k = leb-false (items_length p) image_limit h in
          subst (λ (i : Imaged). Lined s (image_of o i) (lent_report [] rep) (λ u. TreeWith i x t u) (no_line long_image 0 ∷ [])) (sym (image.long p img k).answered)
          (number_alone s long_image 0 (lent_report [] rep) (λ u. u ≡ t))

  -- and 40 to 51
  due : (y : Outcome) → link_bundle (decode s) ≡ y → Due y
  unfolding outcome_lines
  due (faulty l) e = faults-due l e
  due (closed r) e = ring-due r e
  due (ended n p) e = number_alone s n p (lent_report [] rep) (λ u. u ≡ t)
  due (result q) e = linked-due q.ids q.items q.tree e

  accepted-lines : AnswerLines s rep img t (reading_lines (read s))
  unfolding link_answer link_report LinkTree reading_lines
  accepted-lines = rw (accepted s v) (due (link_bundle (decode s)) refl)

-- THE LINES OF THE ANSWER for any bytes, in a report buffer of 4,096 bytes and an image buffer of 65,538, are the specification's
pub answer-lines_in : (s : List ℕ) → Bytes s → (rep img : List ℕ) → length rep ≡ report_size → length img ≡ image_size → (t : Tree) → AnswerLines s rep img t (reading_lines (read s))
answer-lines_in s B rep img hr hi t = go (verdict s) refl
  where
    go : (c : Checked) → verdict s ≡ c → AnswerLines s rep img t (reading_lines (read s))
    go Ok v = accepted-lines s B rep img hr hi t v
    go (Refused n p) v = turned_back s rep img t n p (told s n p v)

-- in the program's buffers
pub answer-lines : (s : List ℕ) → Bytes s → AnswerLines s (replicate report_size 0) (replicate image_size 0) cleared (reading_lines (read s))
answer-lines s B = answer-lines_in s B (replicate report_size 0) (replicate image_size 0) (length-replicate {A = ℕ} report_size 0) (length-replicate {A = ℕ} image_size 0) cleared
