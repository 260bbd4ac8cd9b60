-- Where `gontsamy_link`'s answer stands. Assumes nothing.
use Rattle.std.specs.Prelude.{ℕ, zero, suc, ◌+◌, ◌≤◌, ◌<◌, ◌≡◌, refl, List, [], ◌∷◌, map, length, set, take, drop, get_or, replicate}
use Rattle.std.proofs.Common.{arith, ap, ◌∙◌, length-set, length-append, length-drop, le-leb, length-take-le, get_or-set_same, get_or-set_other, get_or-take}
use Rattle.std.proofs.lemmas.List.{length-replicate, length-map}
use Rattle.std.proofs.lemmas.List.Edits.{sets}
use Rattle.std.proofs.Math.Seq.{length-sets}
use Rattle.bundle.specs.Limits.{file_limit}
use Rattle.bundle.specs.Bundle.{Text, Bundle}
use Rattle.bundle.specs.Stand.{Bytes}
use Rattle.bundle.specs.Read.{Reading, value, refused, read}
use Rattle.bundle.specs.Theorems.{sound}
use Rattle.resolution.specs.Call.{position}
use Rattle.discovery.specs.Discovery.{paths_of}
use Rattle.order.specs.Run.{units_of}
use Rattle.order.specs.Report.{fault, ring, reporting}
use Rattle.order.specs.Call.{padded, unit_files}
use Rattle.order.specs.Theorems.{order-count}
use Rattle.order.specs.Results.{Reported}
use Rattle.order.specs.Results as reported
use Rattle.assembly.specs.Image.{imaging}
use Rattle.assembly.specs.Call.{telling, reported_to, imaged_to}
use Rattle.assembly.specs.Theorems.{few-units}
use Rattle.assembly.specs.Results.{Imaged}
use Rattle.assembly.specs.Results as imaged
use Rattle.order.specs.Results.{Answer}
use Rattle.linker.specs.Link.{Outcome, faulty, closed, ended, result, link_bundle}
use Rattle.linker.specs.Call.{answering, answer_to, link_answer, link_entries}
use Rattle.linker.specs.Theorems.{linked-bundle}
use Rattle.host.specs.LinkTold.{answer_files, answer_ids, answer_length, rows_length, answer_of, answer_told}

-- A RUN OF STORES, place by place
sets_below : (vs l : List ℕ) (i j : ℕ) → j < i → get_or (sets l i vs) j 0 ≡ get_or l j 0
sets_below [] l i j h = refl
sets_below (v ∷ vs) l i j h = sets_below vs (set l i v) (suc i) j (omega arith) ∙ get_or-set_other l i j v 0 (λ e. omega (arith, e))

sets_above : (vs l : List ℕ) (i j : ℕ) → i + length vs ≤ j → get_or (sets l i vs) j 0 ≡ get_or l j 0
sets_above [] l i j h = refl
sets_above (v ∷ vs) l i j h = sets_above vs (set l i v) (suc i) j (omega arith) ∙ get_or-set_other l i j v 0 (λ e. omega (arith, e))

sets_in : (vs l : List ℕ) (i k : ℕ) → k < length vs → i + length vs ≤ length l → get_or (sets l i vs) (i + k) 0 ≡ get_or vs k 0
sets_in [] l i k h b = absurd (omega arith)
sets_in (v ∷ vs) l i zero h b =
    let e : i + 0 ≡ i = omega arith in
    ap (λ (j : ℕ). get_or (sets (set l i v) (suc i) vs) j 0) e ∙ sets_below vs (set l i v) (suc i) i (omega arith) ∙ get_or-set_same l i v 0 (omega arith)
sets_in (v ∷ vs) l i (suc k) h b =
    let e : i + suc k ≡ suc i + k = omega arith in
    ap (λ (j : ℕ). get_or (sets (set l i v) (suc i) vs) j 0) e ∙ sets_in vs (set l i v) (suc i) k (omega arith) (omega (arith, length-set l i v))

-- three runs: h at 0, f at 5, d at 69
module _ (l h f d : List ℕ) (long : answer_length ≤ length l) (h-long : length h ≡ answer_files) (f-few : length f ≤ file_limit) (d-few : length d ≤ file_limit) where
  abbrev l₁ : List ℕ
  l₁ = sets l 0 h

  abbrev l₂ : List ℕ
  l₂ = sets l₁ answer_files f

  at_head : (k : ℕ) → k < answer_files → get_or (sets l₂ answer_ids d) k 0 ≡ get_or h k 0
  at_head k b =
      let e : k ≡ 0 + k = omega arith in
      sets_below d l₂ answer_ids k (omega arith) ∙ (sets_below f l₁ answer_files k b ∙ (ap (λ (j : ℕ). get_or l₁ j 0) e ∙ sets_in h l 0 k (omega arith) (omega arith)))

  at-file : (k : ℕ) → k < length f → get_or (sets l₂ answer_ids d) (answer_files + k) 0 ≡ get_or f k 0
  at-file k b = sets_below d l₂ answer_ids (answer_files + k) (omega arith) ∙ sets_in f l₁ answer_files k b (omega (arith, length-sets l 0 h))

  at-id : (k : ℕ) → k < length d → get_or (sets l₂ answer_ids d) (answer_ids + k) 0 ≡ get_or d k 0
  at-id k b = sets_in d l₂ answer_ids k b (omega (arith, length-sets l 0 h, length-sets l₁ answer_files f))

  past-files : (k : ℕ) → length f ≤ k → k < file_limit → get_or (sets l₂ answer_ids d) (answer_files + k) 0 ≡ get_or l (answer_files + k) 0
  past-files k b c = sets_below d l₂ answer_ids (answer_files + k) (omega arith) ∙ (sets_above f l₁ answer_files (answer_files + k) (omega arith) ∙ sets_above h l 0 (answer_files + k) (omega arith))

  past-ids : (k : ℕ) → length d ≤ k → get_or (sets l₂ answer_ids d) (answer_ids + k) 0 ≡ get_or l (answer_ids + k) 0
  past-ids k b = sets_above d l₂ answer_ids (answer_ids + k) (omega arith) ∙ (sets_above f l₁ answer_files (answer_ids + k) (omega arith) ∙ sets_above h l 0 (answer_ids + k) (omega arith))

-- THE ANSWER m, laid out over l: five numbers, the file of each unit and the ids in linked order, and the places of units that there
-- aren't as they were
pub record Laid (a : Answer) (n : ℕ) (l m : List ℕ) : Type 0 where
  pub place : get_or m 0 0 ≡ a.place
  pub report : get_or m 1 0 ≡ a.report
  pub units : get_or m 2 0 ≡ a.units
  pub image : get_or m 3 0 ≡ a.image
  pub entries : get_or m 4 0 ≡ n
  pub file : (i : ℕ) → i < a.units → get_or m (answer_files + i) 0 ≡ get_or a.files i 0
  pub id : (i : ℕ) → i < a.units → get_or m (answer_ids + i) 0 ≡ get_or a.ids i 0
  pub no_file : (i : ℕ) → a.units ≤ i → i < file_limit → get_or m (answer_files + i) 0 ≡ get_or l (answer_files + i) 0
  pub no_id : (i : ℕ) → a.units ≤ i → get_or m (answer_ids + i) 0 ≡ get_or l (answer_ids + i) 0

laid : (a : Answer) (n : ℕ) (l : List ℕ) → answer_length ≤ length l → a.units ≤ file_limit → length a.files ≡ file_limit → length a.ids ≡ file_limit → Laid a n l (answer_of a n l)
laid a n l long few files ids =
    let h = a.place ∷ a.report ∷ a.units ∷ a.image ∷ n ∷ [] in
    let f = take a.units a.files in
    let d = take a.units a.ids in
    let fl : length f ≡ a.units = length-take-le a.units a.files (omega arith) in
    let dl : length d ≡ a.units = length-take-le a.units a.ids (omega arith) in
    let fb : length f ≤ file_limit = omega arith in
    let db : length d ≤ file_limit = omega arith in
    record {
      place = at_head l h f d long refl fb db 0 (omega arith);
      report = at_head l h f d long refl fb db 1 (omega arith);
      units = at_head l h f d long refl fb db 2 (omega arith);
      image = at_head l h f d long refl fb db 3 (omega arith);
      entries = at_head l h f d long refl fb db 4 (omega arith);
      file = λ i b. at-file l h f d long refl fb db i (omega arith) ∙ get_or-take a.units a.files i 0 b;
      id = λ i b. at-id l h f d long refl fb db i (omega arith) ∙ get_or-take a.units a.ids i 0 b;
      no_file = λ i b c. past-files l h f d long refl fb db i (omega arith) c;
      no_id = λ i b. past-ids l h f d long refl fb db i (omega arith);
    }

-- THE COUNT AND THE ARRAYS of what is answered
record Sized (a : Answer) : Type 0 where
  pub few : a.units ≤ file_limit
  pub files : length a.files ≡ file_limit
  pub ids : length a.ids ≡ file_limit

telling-sized : (n p r : ℕ) → Sized (telling n p r)
telling-sized n p r = record { few = omega arith; files = length-replicate {A = ℕ} file_limit 0; ids = length-replicate {A = ℕ} file_limit 0 }

reported_sized : (r : Reported) → Sized (reported_to r)
reported_sized (reported.Report n) = telling-sized 0 0 n
reported_sized (reported.Refused n p) = telling-sized n p 0

padded-length : (l : List ℕ) → length l ≤ file_limit → length (padded l) ≡ file_limit
padded-length l h =
    omega (arith, length-append l (drop (length l) (replicate file_limit 0)), length-drop {A = ℕ} (length l) (replicate file_limit 0), length-replicate {A = ℕ} file_limit 0)

imaged_sized : (f o : List ℕ) → length f ≤ file_limit → length o ≤ file_limit → (i : Imaged) → Sized (imaged_to (length f) (padded f) (padded o) i)
imaged_sized f o h k (imaged.Image n) = record { few = h; files = padded-length f h; ids = padded-length o k }
imaged_sized f o h k (imaged.Refused n p) = telling-sized n p 0

module _ (s : List ℕ) (B : Bytes s) (n m : ℕ) where
  outcome-sized : (b : Bundle) → read s ≡ value b → (k : Outcome) → link_bundle b ≡ k → Sized (answering (unit_files b) n m k)
  outcome-sized b v (faulty l) e = reported_sized (reporting (map fault l) n)
  outcome-sized b v (closed r) e = reported_sized (reporting (ring r ∷ []) n)
  outcome-sized b v (ended j p) e = telling-sized j p 0
  outcome-sized b v (result w) e =
      let L = linked-bundle s B b v w.ids w.items w.tree e in
      let c = order-count b w.ids L.files in
      let t = few-units b (sound s B b v).1 w.ids L.program.order in
      let u = length-map (units_of b) (λ (q : Text). position q (paths_of b)) in
      imaged_sized (unit_files b) w.ids (omega arith) (omega arith) (imaging w.items m)

  read-sized : (r : Reading) → read s ≡ r → Sized (answer_to r n m)
  read-sized (refused k p) e = telling-sized k p 0
  read-sized (value b) e = outcome-sized b e (link_bundle b) refl

-- each part of the answer stands in its place, for every bundle and every lent answer and rows that are long enough
pub link_laid : (s report image answer rows : List ℕ) → Bytes s → answer_length ≤ length answer → rows_length ≤ length rows
    → Laid (link_answer s report image) (length (link_entries s image)) answer (answer_told s report image answer rows)
unfolding link_answer answer_told
link_laid s report image answer rows B h k =
    let z = read-sized s B (length report) (length image) (read s) refl in
    rw (le-leb answer_length (length answer) h, le-leb rows_length (length rows) k)
    (laid (link_answer s report image) (length (link_entries s image)) answer h z.few z.files z.ids)
