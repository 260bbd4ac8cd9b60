-- From the answers of the layers to that of the operation. Assumes nothing.
use Rattle.std.specs.Prelude.{ℕ, ◌≤◌, ◌<◌, ◌≡◌, refl, true, false, List, [], ◌∷◌, map, eqb, leb, length, take, get_or, Result, Ok as Answered, Err}
use Rattle.std.proofs.Common.{arith, sym, ◌∙◌, eq-eqb, ne_eqb}
use Rattle.std.proofs.Math.Path.{ap, subst}
use Rattle.std.proofs.Math.Bool.{Bool, cond}
use Rattle.bundle.specs.Bundle.{Bundle}
use Rattle.bundle.specs.Decode.{decode}
use Rattle.bundle.specs.Read.{Reading, value, refused, read, verdict}
use Rattle.bundle.specs.Theorems.{accepted}
use Rattle.bundle.specs.Results.{Ok}
use Rattle.discovery.specs.Discovery.{Fault}
use Rattle.order.specs.Run.{ordered}
use Rattle.order.specs.Run as order
use Rattle.order.specs.Call.{padded, refusing, unit_files, order_answer, order_report}
use Rattle.order.specs.Call as call
use Rattle.order.specs.Report.{fault, ring, lent_report, reporting, nothing_lent, tells, tells-some, tells_none}
use Rattle.order.specs.Results.{Reported, Answer}
use Rattle.order.specs.Results as reported
use Rattle.order.specs.Outcome.{and_then}
use Rattle.order.specs.Carried.{order-read, Carried, carried}
use Rattle.scope_tree.specs.Flat.{Flat, Entry}
use Rattle.scope_tree.specs.Rows.{length-tab}
use Rattle.scope_tree.specs.Views.{rows as row_of}
use Rattle.scope_tree.specs.Trees.{view, flat_of, cleared}
use Rattle.scopes.specs.Runs.{first-is, first_good}
use Rattle.rows.specs.Written.{written}
use Rattle.rows.specs.TreeRows.{all_numbers, Listed, listed_as}
use Rattle.driver.specs.Complete.{Carries}
use Rattle.discovery.specs.declared.known.Known.{Known}
use Rattle.assembly.specs.GivenLaws.{known-linked, with_files}
use Rattle.assembly.specs.Join.{units-linked}
use Rattle.scope_tree.specs.declared.Tree.{Tree}
use Rattle.assembly.specs.Assemble.{assembled, assembly_faults, step5, assemble_after, linearize_and_assemble}
use Rattle.assembly.specs.Image.{small_buffer, long_image, image_limit, items_length, image_length, imaging, lent_image}
use Rattle.assembly.specs.Call.{faults_told, reported_to, imaged_to, with_image}
use Rattle.assembly.specs.Given as units
use Rattle.assembly.specs.Results.{Imaged}
use Rattle.assembly.specs.Results as imaged
use Rattle.linker.specs.Link.{Made, Outcome, faulty, closed, ended, result, linked, step6, link_after, link_bundle}
use Rattle.linker.specs.Call.{records_of, built_of, answering, image_after, TreeWith, TreeOfMade, TreeAfter, TreeTo, answer_to, entries_with, entries_after, entries_to, link_answer, link_report, link_image, LinkTree, link_entries}
use Rattle.scope_walk.specs.Steps.{Stop, reached}
use Rattle.scope_walk.specs.Units.{ScopedAs}
use Rattle.refusal.specs.declared.Refusal.{Refusal}
use Rattle.program.specs.declared.assembled.Assembled.{Assembled}
use Rattle.program.specs.declared.assembled.Assembled.TheVariants as assembled
use Rattle.program.specs.Told.{told as answer_told}
use Rattle.linker.specs.declared.linked.Linked.{Linked}
use Rattle.linker.specs.Told.{tree_with}

-- which tree comes back with an image, and which without
abbrev pub tree_by : Imaged → Tree → Tree → Tree
tree_by (imaged.Image n) made given = made
tree_by (imaged.Refused n p) made given = given

-- which tree comes back where one was given: the one made, if the image has a length
abbrev pub tree_given : ℕ → Tree → Tree → Tree
tree_given n made given = cond (eqb n 0) given made

-- what is due of an answer, of both buffers and of the tree that comes back for each one that is given
abbrev pub Due : (s report₀ image₀ report₁ image₁ : List ℕ) → Answer → (Tree → Tree) → Type 0
Due s report₀ image₀ report₁ image₁ a back =
    (a ≡ link_answer s report₀ image₀) × ((report₁ ≡ link_report s report₀) × ((image₁ ≡ link_image s image₀) × ((t : Tree) → LinkTree s image₀ t (back t))))

module _ (s out img : List ℕ) where
  abbrev b : Bundle
  b = decode s

  -- BY THE OUTCOME of a bundle that is read
  module _ (v : verdict s ≡ Ok) (y : Outcome) (e : link_bundle b ≡ y) where
    pub due-by : (rep im : List ℕ) (a : Answer) (back : Tree → Tree) → a ≡ answering (unit_files b) (length out) (length img) y → rep ≡ lent_report (records_of y) out → im ≡ image_after y img
        → ((t : Tree) → TreeAfter (length img) y t (back t)) → Due s out img rep im a back
    unfolding link_answer link_report link_image LinkTree
    due-by rep im a back f g h k =
        let r = accepted s v in
        rw (r, e) (f, (g, (h, k)))

  in_turn : (c : Bundle) (x : order.Outcome) → link_after (assemble_after c x) ≡ and_then x (λ o. link_after (step5 (assembly_faults c o) o (assembled c o)))
  in_turn c (faulty l) = refl
  in_turn c (closed r) = refl
  in_turn c (ended n p) = refl
  in_turn c (result o) = refl

  after_order : (x : order.Outcome) → ordered b ≡ x → link_bundle b ≡ link_after (assemble_after b x)
  unfolding link_bundle linearize_and_assemble
  after_order x e = ap (λ (y : order.Outcome). link_after (assemble_after b y)) e

  module _ (a : Answer) (rep : List ℕ) (is : a ≡ order_answer s out) (lent : rep ≡ order_report s out) where
    -- WHERE THERE ARE NO UNITS the answer of steps 3 and 4 is the answer
    pub no_units : a.units ≡ 0 → Due s out img rep img a (λ t. t)
    unfolding link_answer link_report link_image LinkTree link_bundle linearize_and_assemble
    no_units h =
        let y = at-tree cleared in
        (y.answer, (y.report, (y.held, λ t. (at-tree t).kept refl)))
      where
        at-tree : (t : Tree) → Carried s out a rep is lent link_bundle (λ c o. link_after (step5 (assembly_faults c o) o (assembled c o))) (λ c. in_turn c (ordered c))
            (λ c q. with_image (unit_files c) (length img) (built_of q)) (λ q i. lent_image q.items i) img (TreeOfMade (length img) t t) (t ≡ t)
        at-tree t =
            carried s out a rep is lent link_bundle (λ c o. link_after (step5 (assembly_faults c o) o (assembled c o))) (λ c. in_turn c (ordered c))
            (λ c q. with_image (unit_files c) (length img) (built_of q)) (λ q i. lent_image q.items i) img (TreeOfMade (length img) t t) (t ≡ t) h

    -- LINKED UNITS
    module _ (u : units.OrderedFilesGiven s a.files a.ids a.units) (kept : rep ≡ out) where
      abbrev o : List ℕ
      o = take a.units a.ids

      ok : verdict s ≡ Ok
      ok = u.of_units.checked

      step5-is : link_bundle b ≡ link_after (step5 (assembly_faults b o) o (assembled b o))
      step5-is = after_order (order.linked o) u.order

      told-faults : (fs : List Fault) → 0 < length fs → assembly_faults b o ≡ fs → link_bundle b ≡ faulty fs
      told-faults [] h e = absurd (omega arith)
      told-faults (f ∷ fs) h e = step5-is ∙ ap (λ (l : List Fault). link_after (step5 l o (assembled b o))) e

      module _ (r : Reported) (report₂ : List ℕ) (told : r ≡ reporting (faults_told b o) (length rep)) (is₂ : report₂ ≡ lent_report (faults_told b o) rep) where
        -- faults of step 5
        pub faults-due : tells r ≡ true → Due s out img report₂ img (reported_to r) (λ t. t)
        faults-due some =
            let q = told-faults (assembly_faults b o) (tells-some (assembly_faults b o) (length rep) (ap tells (sym told) ∙ some)) refl in
            due-by ok (faulty (assembly_faults b o)) q report₂ img (reported_to r) (λ t. t)
            (ap reported_to (told ∙ ap (λ (z : List ℕ). reporting (faults_told b o) (length z)) kept))
            (is₂ ∙ ap (lent_report (faults_told b o)) kept) refl (λ t. refl)

        -- none: STEP 6
        module _ (none : tells r ≡ false) (stop : Stop) (made : Tree) (w : ScopedAs (assembled b o) stop made) where
          no_faults : assembly_faults b o ≡ []
          no_faults = tells_none (assembly_faults b o) (length rep) (ap tells (sym told) ∙ none)

          report-kept : report₂ ≡ out
          report-kept = is₂ ∙ (ap (λ (l : List Fault). lent_report (map fault l) rep) no_faults ∙ (nothing_lent rep ∙ kept))

          program-is : link_bundle b ≡ step6 o (assembled b o) (reached stop (flat_of made))
          program-is = step5-is ∙ (ap (λ (l : List Fault). link_after (step5 l o (assembled b o))) no_faults ∙ ap (step6 o (assembled b o)) w.walked)

          -- a call is refused
          pub ended-due : (stop.number ≡ 0 → ⊥) → Due s out img report₂ img (refusing stop.number stop.place) (λ t. t)
          ended-due n =
              due-by ok (ended stop.number stop.place) (program-is ∙ rw (ne_eqb stop.number 0 n)) report₂ img (refusing stop.number stop.place) (λ t. t)
              refl (report-kept ∙ sym (nothing_lent out)) refl (λ t. refl)

          -- the image
          pub image-due : stop.number ≡ 0
              → Due s out img report₂ (lent_image (assembled b o) img) (imaged_to a.units a.files a.ids (imaging (assembled b o) (length img))) (tree_by (imaging (assembled b o) (length img)) made)
          image-due n =
              let l : a ≡ call.linking (unit_files b) (padded o) = is ∙ ((order-read s out ok).0 ∙ ap (call.answering (unit_files b) (length out)) u.order) in
              due-by ok (linked o (assembled b o) (flat_of made)) (program-is ∙ rw (eq-eqb stop.number 0 n)) report₂ (lent_image (assembled b o) img) _ _
              (ap (λ (y : Answer). imaged_to y.units y.files y.ids (imaging (assembled b o) (length img))) l)
              (report-kept ∙ sym (nothing_lent out)) refl (by-image (imaging (assembled b o) (length img)))
            where
              by-image : (i : Imaged) (t : Tree) → TreeWith i (flat_of made) t (tree_by i made t)
              by-image (imaged.Image m) t = record { good = w.good; is = refl }
              by-image (imaged.Refused m p) t = refl

-- STEPS 1 TO 5 as the code has them: where a tells no units it is the answer; where it does, step 6 and the image go on from it
pub record ReportedAs (s out rep : List ℕ) (known : Known) (a : Answer) : Type 0 where
  pub told : a.units ≡ 0 → (img : List ℕ) → Due s out img rep img a (λ t. t)
  pub given : (a.units ≡ 0 → ⊥) → units.OrderGiven s known a.ids a.units
  pub ended : (a.units ≡ 0 → ⊥) → (img : List ℕ) (stop : Stop) (made : Tree) → ScopedAs (assembled (decode s) (take a.units a.ids)) stop made → (stop.number ≡ 0 → ⊥)
      → Due s out img rep img (refusing stop.number stop.place) (λ t. t)
  pub linked : (a.units ≡ 0 → ⊥) → (img : List ℕ) (stop : Stop) (made : Tree) → ScopedAs (assembled (decode s) (take a.units a.ids)) stop made → stop.number ≡ 0
      → Due s out img rep (lent_image (assembled (decode s) (take a.units a.ids)) img)
      (imaged_to a.units a.files a.ids (imaging (assembled (decode s) (take a.units a.ids)) (length img)))
      (tree_by (imaging (assembled (decode s) (take a.units a.ids)) (length img)) made)

-- as the image's answer and buffer tell it
pub linked_with : {s out rep : List ℕ} {known : Known} {a : Answer} → ReportedAs s out rep known a → (a.units ≡ 0 → ⊥) → (img : List ℕ) (stop : Stop) (made : Tree) → ScopedAs (assembled (decode s) (take a.units a.ids)) stop made → stop.number ≡ 0
    → (i : Imaged) → i ≡ imaging (assembled (decode s) (take a.units a.ids)) (length img) → (img' : List ℕ) → img' ≡ lent_image (assembled (decode s) (take a.units a.ids)) img
    → Due s out img rep img' (imaged_to a.units a.files a.ids i) (tree_by i made)
linked_with h n img stop made w z i e img' f = rw (e, f) (h.linked n img stop made w z)

told_none : (r : Reported) → (reported_to r).units ≡ 0
told_none (reported.Report n) = refl
told_none (reported.Refused n p) = refl

module _ (s out : List ℕ) (a : Answer) (rep : List ℕ) (is : a ≡ order_answer s out) (lent : rep ≡ order_report s out) where
  pub reported_none : a.units ≡ 0 → (known : Known) → ReportedAs s out rep known a
  reported_none h known =
      record {
        told = λ z img. no_units s out img a rep is lent h;
        given = λ n. absurd (n h);
        ended = λ n. absurd (n h);
        linked = λ n. absurd (n h);
      }

  module _ (h : a.units ≡ 0 → ⊥) (r : Reported) (rep₂ : List ℕ) (e : r ≡ reporting (faults_told (decode s) (take a.units a.ids)) (length rep))
      (f : rep₂ ≡ lent_report (faults_told (decode s) (take a.units a.ids)) rep) where
    pub reported_faults : tells r ≡ true → (known : Known) → ReportedAs s out rep₂ known (reported_to r)
    reported_faults b known =
        let l = units-linked s out [] a rep is lent h in
        let z : (reported_to r).units ≡ 0 = told_none r in
        record {
          told = λ _ img. faults-due s out img a rep is lent l.0 l.1 r rep₂ e f b;
          given = λ n. absurd (n z);
          ended = λ n. absurd (n z);
          linked = λ n. absurd (n z);
        }

    pub reported_on : tells r ≡ false → (t : Known) → Carries s t → ReportedAs s out rep₂ (with_files t a.files) a
    reported_on none t y =
        let l = units-linked s out [] a rep is lent h in
        record {
          told = λ z. absurd (h z);
          given = λ n. known-linked l.0 y;
          ended = λ n img stop made w. ended-due s out img a rep is lent l.0 l.1 r rep₂ e f none stop made w;
          linked = λ n img stop made w. image-due s out img a rep is lent l.0 l.1 r rep₂ e f none stop made w;
        }

-- THE ENTRIES of the tree that comes back
pub record Comes (es : List Entry) (u : Tree) : Type 0 where
  pub small : get_or u.opened 9 0 ≤ 1024
  pub are : (flat_of u).entries ≡ es

module _ (u : Tree) where
  kept : u ≡ cleared → Comes [] u
  kept e =
      record {
        small = subst (λ (t : Tree). get_or t.opened 9 0 ≤ 1024) (sym e) first_good.good.small;
        are = ap (λ (t : Tree). (flat_of t).entries) e ∙ ap (λ (x : Flat). x.entries) first-is;
      }

  comes_with : (i : Imaged) (x : Flat) → TreeWith i x cleared u → Comes (entries_with i x) u
  comes_with (imaged.Image n) x h = record { small = h.good.good.small; are = ap (λ (y : Flat). y.entries) h.is }
  comes_with (imaged.Refused n p) x h = kept h

  comes_after : (m : ℕ) (o : Outcome) → TreeAfter m o cleared u → Comes (entries_after m o) u
  comes_after m (faulty l) h = kept h
  comes_after m (closed r) h = kept h
  comes_after m (ended n p) h = kept h
  comes_after m (result q) h = comes_with (imaging q.items m) q.tree h

  comes_to : (r : Reading) (m : ℕ) → TreeTo r m cleared u → Comes (entries_to r m) u
  comes_to (refused k p) m h = kept h
  comes_to (value b) m h = comes_after m (link_bundle b) h

  pub comes : (s image : List ℕ) → LinkTree s image cleared u → Comes (link_entries s image) u
  unfolding LinkTree link_entries
  comes s image h = comes_to (read s) (length image) h

-- as rows tell them
pub no_rows : (out : List ℕ) → Listed (flat_of cleared).entries out 0 out
unfolding all_numbers written
no_rows out = listed_as [] (flat_of cleared).entries (sym (ap (λ (x : Flat). x.entries) first-is)) out 0 out (record { count = refl; out = refl })

pub rows-due : (s img : List ℕ) (u : Tree) → LinkTree s img cleared u → (l l' : List ℕ) (n : ℕ) → Listed (flat_of u).entries l n l'
    → Listed (link_entries s img) l n l' × (n ≤ 1024)
rows-due s img u d l l' n h =
    let c = comes u s img d in
    let b : length (flat_of u).entries ≤ 1024 = rw (length-tab (row_of (view u)) (get_or u.opened 9 0)) c.small in
    (listed_as _ _ c.are l n l' h, omega (arith, h.count, b))

-- FROM NO TREE GIVEN TO ANY
module _ (t u : Tree) where
  with_given : (files : List ℕ) (m : ℕ) (q : Made) → TreeOfMade m cleared u q → TreeOfMade m t (tree_given (with_image files m (built_of q)).image u t) q
  unfolding imaging
  with_given files m q h = go (leb (items_length q.items) image_limit) (leb (image_length q.items) m) h
    where
      image_of : Bool → Bool → Imaged
      image_of a b = cond a (cond b (imaged.Image (image_length q.items)) (imaged.Refused small_buffer 0)) (imaged.Refused long_image 0)

      go : (a b : Bool) → TreeWith (image_of a b) q.tree cleared u
          → TreeWith (image_of a b) q.tree t (tree_given (imaged_to (length files) (padded files) (padded q.ids) (image_of a b)).image u t)
      go true true k = rw (ne_eqb (image_length q.items) 0 (λ z. omega arith)) k
      go true false k = refl
      go false b k = refl

  reported_given : (r : Reported) → tree_given (reported_to r).image u t ≡ t
  reported_given (reported.Report n) = refl
  reported_given (reported.Refused n p) = refl

  after-given : (files : List ℕ) (n m : ℕ) (y : Outcome) → TreeAfter m y cleared u → TreeAfter m y t (tree_given (answering files n m y).image u t)
  after-given files n m (faulty l) h = reported_given (reporting (map fault l) n)
  after-given files n m (closed r) h = reported_given (reporting (ring r ∷ []) n)
  after-given files n m (ended k p) h = refl
  after-given files n m (result q) h = with_given files m q h

  to-given : (x : Reading) (n m : ℕ) → TreeTo x m cleared u → TreeTo x m t (tree_given (answer_to x n m).image u t)
  to-given (refused k p) n m h = refl
  to-given (value b) n m h = after-given (unit_files b) n m (link_bundle b) h

  pub tree-given : (s out img : List ℕ) (a : Answer) → a ≡ link_answer s out img → LinkTree s img cleared u → LinkTree s img t (tree_given a.image u t)
  unfolding link_answer LinkTree
  tree-given s out img a e h = rw e (to-given (read s) (length out) (length img) h)

  -- as the code has it
  pub record_given : (x : Linked) → (answer_told x.answer).image ≡ 0 → ◌≡◌ {A = Linked} (record { answer = x.answer; tree = t }) (record { answer = x.answer; tree = tree_given (answer_told x.answer).image x.tree t })
  record_given x e = rw (eq-eqb (answer_told x.answer).image 0 e)

  pub record_made : (x : Linked) → ((answer_told x.answer).image ≡ 0 → ⊥) → x ≡ record { answer = x.answer; tree = tree_given (answer_told x.answer).image x.tree t }
  record_made x n = rw (ne_eqb (answer_told x.answer).image 0 n)

-- an answer that has units has an image
image_some : (x : Reading) (n m : ℕ) → 0 < (answer_to x n m).units → (answer_to x n m).image ≡ 0 → ⊥
unfolding imaging
image_some (refused k p) n m h z = omega arith
image_some (value b) n m h z = by (link_bundle b) h z
  where
    none : (r : Reported) → 0 < (reported_to r).units → ⊥
    none r k = omega (arith, told_none r)

    by : (y : Outcome) → 0 < (answering (unit_files b) n m y).units → (answering (unit_files b) n m y).image ≡ 0 → ⊥
    by (faulty l) k e = none (reporting (map fault l) n) k
    by (closed r) k e = none (reporting (ring r ∷ []) n) k
    by (ended j p) k e = omega arith
    by (result q) k e = go (leb (items_length q.items) image_limit) (leb (image_length q.items) m) k e
      where
        image_of : Bool → Bool → Answer
        image_of a c = imaged_to (length (unit_files b)) (padded (unit_files b)) (padded q.ids) (cond a (cond c (imaged.Image (image_length q.items)) (imaged.Refused small_buffer 0)) (imaged.Refused long_image 0))

        go : (a c : Bool) → 0 < (image_of a c).units → (image_of a c).image ≡ 0 → ⊥
        go true true i j = omega arith
        go true false i j = omega arith
        go false c i j = omega arith

-- the same by the code's answer: `link` gives back the tree that was made where there is an image, and otherwise the one given
pub tree_with-given : (t u : Tree) (s out img : List ℕ) (r : Result Assembled Refusal) → answer_told r ≡ link_answer s out img → LinkTree s img cleared u → LinkTree s img t (tree_with r u t)
unfolding link_answer
tree_with-given t u s out img (Err e) q h = tree-given t u s out img (answer_told (Err e)) q h
tree_with-given t u s out img (Answered (assembled.Report n)) q h = tree-given t u s out img (answer_told (Answered (assembled.Report n))) q h
tree_with-given t u s out img (Answered (assembled.Image l n)) q h =
    let some : n ≡ 0 → ⊥ = λ z. image_some (read s) (length out) (length img) (omega (arith, ap (λ (a : Answer). a.units) q, l.some.0)) (sym (ap (λ (a : Answer). a.image) q) ∙ z) in
    rw (ne_eqb n 0 some) at (tree-given t u s out img (answer_told (Answered (assembled.Image l n))) q h)
