-- SIX WRONG LINKERS (docs/EVIDENCE.md, Q3): what no answer that meets the contracts can be. Each lemma takes what a call left, as its contract has it,
-- and a behaviour that 01 rules out, and comes to a contradiction. Assumes nothing.
use Rattle.std.specs.Prelude.{ℕ, zero, suc, ◌<◌, ◌≤◌, Bool, true, false, cond, ◌⊎◌, ◌≡◌, refl, ltb, length, get_or, take, replicate}
use Rattle.std.proofs.Common.{arith, inl, inr, ⊎_elim, sym, subst, ◌∙◌, length-append, ltb-true}
use Rattle.std.proofs.Math.Path.{ap}
use mathlib.Core.List.{List, [], ◌∷◌, ◌++◌, Memᴰ}
use Rattle.std.proofs.lemmas.List.{length-map}
use Rattle.bundle.specs.Bundle.{Text, Items, Bundle}
use Rattle.names.specs.Bytes.{ascii}
use Rattle.bundle.specs.Encode.{two, string, joined, counted, sized, element, items, remapping, file, fields, encode}
use Rattle.bundle.specs.Stand.{Bytes}
use Rattle.bundle.specs.Read.{value, refused, read}
use Rattle.resolution.specs.Call.{position}
use Rattle.discovery.specs.Discovery.{paths_of}
use Rattle.discovery.specs.Reached.{Imports, Reached, Once, imported}
use Rattle.discovery.specs.Facts.{pigeons}
use Rattle.discovery.specs.Right.{discovered}
use Rattle.order.specs.Run.{units_of}
use Rattle.order.specs.Files.{LinkedFiles}
use Rattle.order.specs.Report.{report_length}
use Rattle.order.specs.Call.{unit_files, paths_of_ids, padded}
use Rattle.order.specs.Theorems.{order-count}
use Rattle.scope_tree.specs.Step.{Answer, ok, refused as refused-with}
use Rattle.scope_tree.specs.Step as tree
use Rattle.scope_tree.specs.Flat.{Flat, flat, first_flat}
use Rattle.scope_tree.specs.Form.{Request, resolves_use, call_of}
use Rattle.scope_tree.specs.Views.{rows, told as told_of}
use Rattle.scope_tree.specs.Trees.{Good, view, flat_of, cleared}
use Rattle.scope_tree.specs.Rows.{length-tab}
use Rattle.scopes.specs.Meets.{Meets}
use Rattle.scope_tree.specs.declared.Tree.{Tree}
use Rattle.scopes.specs.Meets.{Outcome}
use Rattle.assembly.specs.Image.{small_buffer, image_limit, items_length, image_length}
use Rattle.assembly.specs.Image as image
use Rattle.assembly.specs.Call.{refusing, imaged_to, NoImage, too_long, too_small}
use Rattle.assembly.specs.Theorems.{Program}
use Rattle.order.specs.Results as answers
use Rattle.assembly.specs.Results as imaged
use Rattle.scope_walk.specs.Scopes.{Asked, scope_calls, walk_from, done}
use Rattle.linker.specs.Link.{linked, link_bundle}
use Rattle.linker.specs.Call.{records_of, link_answer, link_report, link_image, LinkTree}
use Rattle.linker.specs.Theorems.{LinkedBundle, linked-bundle}
use Rattle.linker.specs.Demand.{EndsAt, LinkTold, turned_back, small_report, faults, ring_met, ends, no_image, links, told}
use Rattle.linker.specs.Cases.{two_files, numbers, lents, lents_hold}
use Rattle.linker.specs.Refusals.{otherwise, RefusedBy, by_form, by_rule, by_limit, refused-by, bad-small, element_count, request-adds}

-- THE CONTRACT of `link`, of what a call of it leaves: the answer, both buffers and the tree
pub record LinkRun : Type 0 where
  pub answer : answers.Answer
  pub report : List ℕ
  pub image : List ℕ
  pub tree : Tree

pub record LinkMeets (s rep img : List ℕ) (t : Tree) (r : LinkRun) : Type 0 where
  pub answer : r.answer ≡ link_answer s rep img
  pub report : r.report ≡ link_report s rep
  pub image : r.image ≡ link_image s img
  pub tree : LinkTree s img t r.tree

-- an answer that turns a bundle back: a refusal, a report, or no unit
pub data TurnsBack (a : answers.Answer) : Type 0 where
  refuses : (a.number ≡ 0 → ⊥) → TurnsBack a
  reports : 0 < a.report → TurnsBack a
  no_unit : a.units ≡ 0 → TurnsBack a

-- an answer with units: how many, and which paths they are
record ListsUnits (b : Bundle) (a : answers.Answer) : Type 0 where
  files : LinkedFiles b (paths_of_ids b a.files a.ids a.units)
  count : a.units ≡ length (units_of b)

two-values : {b c : Bundle} (s : List ℕ) → read s ≡ value b → read s ≡ value c → b ≡ c
two-values s v w = let z : value _ ≡ value _ = sym v ∙ w in cc

no_refusal : {b : Bundle} {n p : ℕ} (s : List ℕ) → read s ≡ value b → read s ≡ refused n p → ⊥
no_refusal s v w = let z : value _ ≡ refused _ _ = sym v ∙ w in let y : ◌≡◌ {A = ℕ} 0 1 = cc in omega arith

few-taken : {A : Type 0} (n : ℕ) (l : List A) → length (take n l) ≤ n
few-taken zero l = omega arith
few-taken (suc n) [] = omega arith
few-taken (suc n) (a ∷ l) = let h = few-taken n l in omega arith

one_only : {A : Type 0} (l : List A) → length l ≤ 1 → (f g : A) → Memᴰ f l → Memᴰ g l → f ≡ g
one_only [] h f g m n = absurd (mathlib.Core.List.Memᴰ.not-nil m)
one_only (a ∷ []) h f g m n =
    ⊎_elim (λ p. ⊎_elim (λ q. p ∙ sym q) (λ w. absurd (mathlib.Core.List.Memᴰ.not-nil w)) (mathlib.Core.List.Memᴰ.cases_cons n)) (λ w. absurd (mathlib.Core.List.Memᴰ.not-nil w)) (mathlib.Core.List.Memᴰ.cases_cons m)
one_only (a ∷ (c ∷ l)) h f g m n = absurd (omega arith)

module _ (s : List ℕ) (B : Bytes s) (rep img : List ℕ) (t : Tree) (r : LinkRun) (m : LinkMeets s rep img t r) where
  met : LinkTold s rep img t r.tree r.report r.image r.answer
  met = rw (m.answer, m.report, m.image) (told s B rep img t r.tree m.tree)

  module _ (b : Bundle) (v : read s ≡ value b) where
    units-are : (r.answer.units ≡ 0 → ⊥) → ListsUnits b r.answer
    units-are h = go met
      where
        none : {a : answers.Answer} → r.answer ≡ a → a.units ≡ 0 → ⊥
        none q z = h (ap (λ (y : answers.Answer). y.units) q ∙ z)

        go : LinkTold s rep img t r.tree r.report r.image r.answer → ListsUnits b r.answer
        go (turned_back n p e q k w) = absurd (none q refl)
        go (small_report c e l q k w) = absurd (none q refl)
        go (faults c l e f q k w) = absurd (none q refl)
        go (ring_met c l e f q k w) = absurd (none q refl)
        go (ends c n p e f q k w) = absurd (none q refl)
        go (no_image c o p x n e f y q k w) = absurd (none q refl)
        go (links c o p e f L g q i k) =
            let z = two-values s e v in
            subst (λ (d : Bundle). ListsUnits d r.answer) z
            (record { files = f; count = ap (λ (y : answers.Answer). y.units) q ∙ length-map (units_of c) (λ (x : Text). position x (paths_of c)) })

    -- (2) A LINKER THAT TURNS BACK a bundle that links and whose image has room
    pub turns-back-linked : (o : List ℕ) (p : Items) (x : Flat) → link_bundle b ≡ linked o p x → items_length p ≤ image_limit → image_length p ≤ length img → TurnsBack r.answer → ⊥
    unfolding link_answer
    turns-back-linked o p x e small room = go
      where
        L : LinkedBundle b o p x
        L = linked-bundle s B b v o p x e

        is : r.answer ≡ imaged_to (length (unit_files b)) (padded (unit_files b)) (padded o) (imaged.Image (image_length p))
        is = m.answer ∙ (rw (v, e) (ap (imaged_to (length (unit_files b)) (padded (unit_files b)) (padded o)) (image.fits p img small room).answered))

        go : TurnsBack r.answer → ⊥
        go (refuses f) = f (ap (λ (y : answers.Answer). y.number) is)
        go (reports l) = let q = ap (λ (y : answers.Answer). y.report) is in omega arith
        go (no_unit z) =
            let q = ap (λ (y : answers.Answer). y.units) is in
            let last = L.assembled.last in
            let c = order-count b o L.files in
            let k = length-map (units_of b) (λ (y : Text). position y (paths_of b)) in
            omega (arith, ap length last, length-append L.assembled.before (0 ∷ []))

    -- (2, 3) ONE THAT LISTS ONLY UNIT 0 of two or more reached files
    pub lists-only-unit_0 : (f g : Text) → Reached b f → Reached b g → (f ≡ g → ⊥) → r.answer.units ≡ 1 → ⊥
    lists-only-unit_0 f g i j apart one =
        let u = units-are (λ z. let y : ◌≡◌ {A = ℕ} 1 0 = sym one ∙ z in omega arith) in
        let l = paths_of_ids b r.answer.files r.answer.ids r.answer.units in
        let few : length l ≤ 1 = omega (arith, few-taken r.answer.units r.answer.ids, length-map (take r.answer.units r.answer.ids) (λ (k : ℕ). get_or (paths_of b) (get_or r.answer.files k 0) [])) in
        apart (one_only l few f g (u.files.complete f i) (u.files.complete g j))

    -- (3) ONE THAT FOLLOWS THE ENTRY'S USES BUT LISTS LATER FILES UNTOUCHED: a listed file imports one that isn't listed
    abbrev pub listed_paths : List Text
    listed_paths = paths_of_ids b r.answer.files r.answer.ids r.answer.units

    some-listed : (f : Text) → Memᴰ f listed_paths → r.answer.units ≡ 0 → ⊥
    some-listed f k z = mathlib.Core.List.Memᴰ.not-nil (subst (λ (n : ℕ). Memᴰ f (paths_of_ids b r.answer.files r.answer.ids n)) z k)

    pub later-file-missing : (f g : Text) → Memᴰ f listed_paths → Imports b f g → (Memᴰ g listed_paths → ⊥) → ⊥
    later-file-missing f g k i denied =
        let u = units-are (some-listed f k) in
        denied (u.files.complete g (imported (u.files.sound f k) i))

    -- or one that isn't listed before it
    pub later-file-behind : (p q : List Text) (f g : Text) → listed_paths ≡ p ++ (f ∷ q) → Imports b f g → (g ≡ f → ⊥) → (Memᴰ g p → ⊥) → ⊥
    later-file-behind p q f g e i other denied =
        let at : Memᴰ f listed_paths = subst (λ (l : List Text). Memᴰ f l) (sym e) (mathlib.Core.List.Memᴰ.append_right p (mathlib.Core.List.Memᴰ.head refl)) in
        let u = units-are (some-listed f at) in
        denied (u.files.after p q f g e i other)

    -- (2) AN INVENTED UNIT COUNT: other than the number of reached files
    pub invented_count : (l : List Text) → Once l → ((f : Text) → Memᴰ f l → Reached b f) → ((f : Text) → Reached b f → Memᴰ f l)
        → (r.answer.units ≡ 0 → ⊥) → (r.answer.units ≡ length l → ⊥) → ⊥
    invented_count l once sound complete some denied =
        let d = discovered b in
        let x = pigeons once (units_of b) (λ f k. d.complete f (sound f k)) in
        let y = pigeons d.once l (λ f k. complete f (d.sound f k)) in
        let c = (units-are some).count in
        denied (omega arith)

    -- (2) AN INVENTED PLACE: a refusal of a bundle that is read is told at the mark of the first call that is refused, with its number, or is 14
    -- or 15 at place 0
    pub invented_place : (r.answer.number ≡ 0 → ⊥) → (EndsAt b r.answer.number r.answer.place → ⊥)
        → (((r.answer.number ≡ 14) ⊎ (r.answer.number ≡ 15)) × (r.answer.place ≡ 0) → ⊥) → ⊥
    invented_place some no_call no_room = go met
      where
        number_is : {a : answers.Answer} → r.answer ≡ a → r.answer.number ≡ a.number
        number_is q = ap (λ (y : answers.Answer). y.number) q

        place_is : {a : answers.Answer} → r.answer ≡ a → r.answer.place ≡ a.place
        place_is q = ap (λ (y : answers.Answer). y.place) q

        imageless : {p : Items} {k n : ℕ} → NoImage p k n → (n ≡ 14) ⊎ (n ≡ 15)
        imageless (too_long h) = inr refl
        imageless (too_small h i) = inl refl

        go : LinkTold s rep img t r.tree r.report r.image r.answer → ⊥
        go (turned_back n p e q k w) = no_refusal s v e
        go (small_report c e l q k w) = no_room (inl (number_is q), place_is q)
        go (faults c l e f q k w) = some (number_is q)
        go (ring_met c l e f q k w) = some (number_is q)
        go (ends c n p e f q k w) =
            let z = two-values s e v in
            no_call (subst (λ (d : Bundle). EndsAt d r.answer.number r.answer.place) z (subst (EndsAt c r.answer.number) (sym (place_is q)) (subst (λ (j : ℕ). EndsAt c j p) (sym (number_is q)) f)))
        go (no_image c o p x n e f y q k w) = no_room (⊎_elim (λ h. inl (number_is q ∙ h)) (λ h. inr (number_is q ∙ h)) (imageless y), place_is q)
        go (links c o p e f L g q i k) = some (number_is q)

    -- (1, 2) 14 WITH SPACE LEFT, for the report and for the image
    pub small_with_space : report_length (records_of (link_bundle b)) ≤ length rep → ((o : List ℕ) (p : Items) → Program b o p → image_length p ≤ length img) → r.answer.number ≡ small_buffer → ⊥
    small_with_space room fits e = go met
      where
        other : {a : answers.Answer} → r.answer ≡ a → a.number ≡ 14
        other q = sym (ap (λ (y : answers.Answer). y.number) q) ∙ e

        imageless : (p : Items) (n : ℕ) → image_length p ≤ length img → NoImage p (length img) n → n ≡ 14 → ⊥
        imageless p n l (too_long h) k = let z : ◌≡◌ {A = ℕ} 15 14 = k in omega arith
        imageless p n l (too_small h i) k = omega arith

        go : LinkTold s rep img t r.tree r.report r.image r.answer → ⊥
        go (turned_back n p w q k j) = no_refusal s v w
        go (small_report c w l q k j) = let z = two-values s w v in let n = subst (λ (d : Bundle). length rep < report_length (records_of (link_bundle d))) z l in omega arith
        go (faults c l w f q k j) = let z = other q in omega arith
        go (ring_met c l w f q k j) = let z = other q in omega arith
        go (ends c n p w f q k j) = let z = other q in let l = f.numbers.0 in omega arith
        go (no_image c o p x n w f y q k j) = imageless p n (fits o p (subst (λ (d : Bundle). Program d o p) (two-values s w v) f.program)) y (other q)
        go (links c o p w f L g q i k) = let z = other q in omega arith

    -- (1, 2) 51 WITH SPACE LEFT: every call of the walk, otherwise good, would leave at most 1,024 entries and 9 open modules
    pub full_with_space : ((o : List ℕ) (p : Items) → Program b o p → (before later : List Asked) (call : Asked) (x y : Flat) → scope_calls p ≡ before ++ (call ∷ later)
        → walk_from flat first_flat before ≡ done x → otherwise x (call_of call.request) ≡ tree.done y → (length y.entries ≤ 1024) × (length y.stack ≤ 9))
        → r.answer.number ≡ 51 → ⊥
    full_with_space space e = go met
      where
        other : {a : answers.Answer} → r.answer ≡ a → a.number ≡ 51
        other q = sym (ap (λ (y : answers.Answer). y.number) q) ∙ e

        by_call : (x : Flat) (q : Request) (n : ℕ) → RefusedBy x (call_of q) n → n ≡ 51 → ((y : Flat) → otherwise x (call_of q) ≡ tree.done y → (length y.entries ≤ 1024) × (length y.stack ≤ 9)) → ⊥
        by_call x q n (by_form f) h k = let l = bad-small q n f in omega arith
        by_call x q n (by_rule l u) h k = omega arith
        by_call x q n (by_limit l u) h k =
            let i = k u.leaves u.good in
            ⊎_elim (λ w. omega (arith, i.0, w)) (λ w. omega (arith, i.1, w)) u.passes

        imageless : {p : Items} {k n : ℕ} → NoImage p k n → n ≡ 51 → ⊥
        imageless (too_long h) i = let z : ◌≡◌ {A = ℕ} 15 51 = i in omega arith
        imageless (too_small h j) i = let z : ◌≡◌ {A = ℕ} 14 51 = i in omega arith

        go : LinkTold s rep img t r.tree r.report r.image r.answer → ⊥
        go (turned_back n p w q k j) = no_refusal s v w
        go (small_report c w l q k j) = let z = other q in omega arith
        go (faults c l w f q k j) = let z = other q in omega arith
        go (ring_met c l w f q k j) = let z = other q in omega arith
        go (ends c n p w f q k j) =
            let h = f.ends in
            let of-b = subst (λ (d : Bundle). Program d f.ids f.items) (two-values s w v) f.program in
            by_call h.tree h.call.request n (refused-by h.tree n (call_of h.call.request) h.number) (other q)
            (λ y g. space f.ids f.items of-b h.before h.later h.call h.tree y h.is h.made g)
        go (no_image c o p x n w f y q k j) = imageless y (other q)
        go (links c o p w f L g q i k) = let z = other q in omega arith

  -- (2) AN INVENTED PLACE of bytes that are not read: the number and the place are those that the reader gives
  pub invented_field : (n p : ℕ) → read s ≡ refused n p → ((r.answer.number ≡ n) × (r.answer.place ≡ p) → ⊥) → ⊥
  unfolding link_answer
  invented_field n p e denied =
      let q : r.answer ≡ refusing n p = m.answer ∙ rw e in
      denied (ap (λ (y : answers.Answer). y.number) q, ap (λ (y : answers.Answer). y.place) q)

-- (2) A LINKER THAT TURNS BACK EVERY BUNDLE: the printed case, in 62 bytes of image, links
unfoldable small_bytes : List ℕ → Bool
small_bytes [] = true
small_bytes (n ∷ l) = cond (ltb n 256) (small_bytes l) false

all_small : (l : List ℕ) → small_bytes l ≡ true → (i : ℕ) → get_or l i 0 < 256
unfolding small_bytes
all_small [] h i = omega arith
all_small (n ∷ l) h i = go (λ k j. all_small l k j) (ltb n 256) refl h i
  where
    go : (small_bytes l ≡ true → (j : ℕ) → get_or l j 0 < 256) → (c : Bool) → ltb n 256 ≡ c → cond c (small_bytes l) false ≡ true → (j : ℕ) → get_or (n ∷ l) j 0 < 256
    go ih true e k zero = ltb-true n 256 e
    go ih true e k (suc j) = ih k j
    go ih false e k j = let z : ◌≡◌ {A = ℕ} 0 1 = cc in absurd (omega arith)

printed_bytes : Bytes (encode two_files)
unfolding small_bytes ascii encode fields sized two string counted joined remapping file items element
printed_bytes = all_small (encode two_files) refl

printed-links : numbers (link_answer (encode two_files) [] (replicate 62 7)) ≡ 0 ∷ 0 ∷ 0 ∷ 2 ∷ 62 ∷ []
unfolding lents
printed-links = ap (λ (l : List (List ℕ)). get_or l 1 []) lents_hold

pub turns-back-every-bundle : (f : (s rep img : List ℕ) → Tree → LinkRun) → ((s rep img : List ℕ) (t : Tree) → Bytes s → LinkMeets s rep img t (f s rep img t))
    → ((s rep img : List ℕ) (t : Tree) → TurnsBack (f s rep img t).answer) → ⊥
turns-back-every-bundle f meets turns = go (turns (encode two_files) [] (replicate 62 7) cleared)
  where
    is : numbers (f (encode two_files) [] (replicate 62 7) cleared).answer ≡ 0 ∷ 0 ∷ 0 ∷ 2 ∷ 62 ∷ []
    is = ap numbers (meets (encode two_files) [] (replicate 62 7) cleared printed_bytes).answer ∙ printed-links

    go : TurnsBack (f (encode two_files) [] (replicate 62 7) cleared).answer → ⊥
    go (refuses k) = k (ap (λ (l : List ℕ). get_or l 0 0) is)
    go (reports k) = let q = ap (λ (l : List ℕ). get_or l 2 0) is in omega arith
    go (no_unit k) = let q = ap (λ (l : List ℕ). get_or l 3 0) is in omega arith

-- (2) A USE THAT REPORTS SUCCESS AND IMPORTS NOTHING, though it has an element
pub imports-nothing : (t : Tree) (d : List ℕ) (v : Bool) (r : Outcome) → Good t → Meets t (resolves_use d v) r → told_of r.answer ≡ ok → 0 < element_count d → (view r.tree).count ≡ (view t).count → ⊥
imports-nothing t d v r g m taken some same =
    let h = request-adds (flat_of t) d v (sym (m.answer g) ∙ taken) in
    let e = ap (λ (x : Flat). length x.entries) (m.tree g) in
    omega (arith, h, e, length-tab (rows (view t)) (view t).count, length-tab (rows (view r.tree)) (view r.tree).count)

-- (1, 2) 51 OF A TREE CALL WITH SPACE LEFT
pub full-tree_with_space : (t : Tree) (q : Request) (r : Outcome) (y : Flat) → Good t → Meets t q r → told_of r.answer ≡ refused-with 51 → otherwise (flat_of t) (call_of q) ≡ tree.done y
    → length y.entries ≤ 1024 → length y.stack ≤ 9 → ⊥
full-tree_with_space t q r y g m e is few shallow = go (refused-by (flat_of t) 51 (call_of q) (sym (m.answer g) ∙ e))
  where
    go : RefusedBy (flat_of t) (call_of q) 51 → ⊥
    go (by_form f) = let l = bad-small q 51 f in omega arith
    go (by_rule l u) = omega arith
    go (by_limit l u) =
        let z : u.leaves ≡ y = (let w : tree.done u.leaves ≡ tree.done y = sym u.good ∙ is in cc) in
        let a = ap (λ (x : Flat). length x.entries) z in
        let c = ap (λ (x : Flat). length x.stack) z in
        ⊎_elim (λ w. omega (arith, a, few, w)) (λ w. omega (arith, c, shallow, w)) u.passes
