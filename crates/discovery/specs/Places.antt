-- WHERE EACH FILE STANDS: what is known has the position of every file of the bundle. Assumes nothing.
use Rattle.std.specs.Prelude.{ℕ, suc, ◌+◌, ◌^◌, ◌≤◌, ◌<◌, Bool, true, false, eqb, ◌≡◌, refl, List, map, length, get_or, set}
use Rattle.std.proofs.Common.{arith, eqb-true, sym, ap, ◌∙◌, length-append, length-set, get_or-set_same, get_or-set_other}
use Rattle.std.proofs.Math.Decide.{dec_lt}
use Rattle.std.proofs.lemmas.Bool.{eqb-false}
use Rattle.std.proofs.lemmas.List.{length-map}
use Rattle.bundle.specs.Bundle.{Text, File}
use Rattle.bundle.specs.Limits.{file_limit}
use Rattle.bundle.specs.Decode.{file_at, decode}
use Rattle.bundle.specs.Read.{verdict}
use Rattle.bundle.specs.Results.{Ok}
use Rattle.card.specs.Layout.{start_at}
use Rattle.card.specs.declared.parts.Card.{Card}
use Rattle.card.specs.Card.{CardIs, nodes_in, file-starts}
use Rattle.resolution.specs.Lists.{Lists}
use Rattle.discovery.specs.Discovery.{Use}
use Rattle.discovery.specs.Room.{checked-roomy}
use Rattle.discovery.specs.declared.known.Known.{Known}
use Rattle.discovery.specs.declared.known.FileRow.{FileRow}
use Rattle.discovery.specs.Known.{Wide, no_row, row_of, from_of, to_of, place_of, begun, begun-place, Fills}

pub record Places (s : List ℕ) (t : Known) : Type 0 where
  pub small : (i : ℕ) → i < file_limit → place_of t i < 2 ^ 26
  pub stands : (i : ℕ) (d : File) → i < length (decode s).files → get_or (decode s).files i d ≡ file_at s (place_of t i)

-- at first there is no entry and no place
pub record Fresh (t : Known) : Type 0 where
  pub wide : Wide t
  pub none : t.next ≡ 0
  pub clear : (i : ℕ) → i < file_limit → place_of t i ≡ 0

-- a table of which only other parts were changed has the same places
pub places-kept : (s : List ℕ) (t r : Known) → Places s t → ((i : ℕ) → i < file_limit → place_of r i ≡ place_of t i) → verdict s ≡ Ok → Places s r
places-kept s t r p e v =
    let few = (checked-roomy s v).files in
    record {
      small = λ i h. rw (e i h) (p.small i h);
      stands = λ i d h. rw (e i (omega arith)) (p.stands i d h);
    }

-- by what is stored of a unit
pub places-turn : (s : List ℕ) (t r : Known) (index n first count : ℕ) (l : Lists) (file : Text) (us : List Use) → verdict s ≡ Ok → length t.rows ≡ file_limit → index < file_limit → Fills l file (begun t index n) r first us count → Places s t → Places s r
places-turn s t r index n first count l file us v w h f p =
    places-kept s t r p (λ i k. ap (λ (rows : List FileRow). (get_or rows i no_row).place) f.rows ∙ begun-place t w index n h i) v

-- THE STARTS of the files, from a card c; all else stays
pub record StartsPut (c : Card) (t r : Known) : Type 0 where
  pub files : r.files ≡ t.files
  pub ends : (i : ℕ) → (from_of r i ≡ from_of t i) × (to_of r i ≡ to_of t i)
  pub rows : length r.rows ≡ length t.rows
  pub entries : r.entries ≡ t.entries
  pub next : r.next ≡ t.next
  pub put : (i : ℕ) → i < c.files → place_of r i ≡ start_at c (c.folders + 1 + i)
  pub other : (i : ℕ) → c.files ≤ i → place_of r i ≡ place_of t i

module _ (s : List ℕ) (c : Card) (t r : Known) (C : CardIs s c) (v : verdict s ≡ Ok) (x : Fresh t) (p : StartsPut c t r) where
  total : length (nodes_in s) ≡ suc (length (decode s).folders + length (decode s).files)
  total = ap suc (length-append (decode s).folders (map (λ (f : File). f.path) (decode s).files) ∙ ap (λ (n : ℕ). length (decode s).folders + n) (length-map (decode s).files (λ (f : File). f.path)))

  pub starts-wide : Wide r
  starts-wide = record { rows = p.rows ∙ x.wide.rows; entries = ap length p.entries ∙ x.wide.entries }

  pub starts-places : Places s r × (r.next ≡ 0)
  starts-places = (
    record {
      small = λ i h. is-small i h (dec_lt i (c.files));
      stands = λ i d h.
          let n = C.files in
          let e : c.folders + 1 + i ≡ suc (length (decode s).folders + i) = omega (arith, C.folders) in
          sym (file-starts C i d h) ∙ ap (file_at s) (ap (start_at c) (sym e) ∙ sym (p.put i (omega arith)));
    },
    p.next ∙ x.none,
  )
    where
      is-small : (i : ℕ) → i < file_limit → Dec (i < c.files) → place_of r i < 2 ^ 26
      is-small i h (yes k) =
          let n = C.files in
          let f = C.folders in
          let w = C.index.low (c.folders + 1 + i) (omega (arith, total)) in
          rw (p.put i k) w
      is-small i h (no k) = let e = p.other i (omega arith) in let z = x.clear i h in omega arith

-- the loop: i are put
pub record StartsTo (c : Card) (t₀ t : Known) (i : ℕ) : Type 0 where
  pub files : t.files ≡ t₀.files
  pub ends : (j : ℕ) → (from_of t j ≡ from_of t₀ j) × (to_of t j ≡ to_of t₀ j)
  pub wide : length t.rows ≡ length t₀.rows
  pub entries : t.entries ≡ t₀.entries
  pub next : t.next ≡ t₀.next
  pub put : (j : ℕ) → j < i → place_of t j ≡ start_at c (c.folders + 1 + j)
  pub other : (j : ℕ) → i ≤ j → place_of t j ≡ place_of t₀ j

module _ (c : Card) (t₀ : Known) where
  pub starts_none : StartsTo c t₀ t₀ 0
  starts_none = record { files = refl; ends = λ j. (refl, refl); wide = refl; entries = refl; next = refl; put = λ j h. absurd (omega arith); other = λ j h. refl }

  -- the place of row i is x
  abbrev pub with_place : Known → ℕ → ℕ → Known
  with_place t i x = record t { rows = set t.rows i (record (row_of t i) { place = x }) }

  pub starts-one : (t : Known) (i x : ℕ) → StartsTo c t₀ t i → i < length t₀.rows → x ≡ start_at c (c.folders + 1 + i) → StartsTo c t₀ (with_place t i x) (i + 1)
  starts-one t i x p h e = record {
    files = p.files;
    ends = λ j. kept j (eqb j i) refl;
    wide = length-set t.rows i _ ∙ p.wide;
    entries = p.entries;
    next = p.next;
    put = λ j lt. go j lt (eqb j i) refl;
    other = λ j o. ap (λ (r : FileRow). r.place) (get_or-set_other t.rows i j _ no_row (λ q. omega arith)) ∙ p.other j (omega arith);
  }
    where
      kept : (j : ℕ) (b : Bool) → eqb j i ≡ b → (from_of (with_place t i x) j ≡ from_of t₀ j) × (to_of (with_place t i x) j ≡ to_of t₀ j)
      kept j true q =
          let w = p.wide in
          rw (eqb-true j i q) (
            ap (λ (r : FileRow). r.from) (get_or-set_same t.rows i _ no_row (omega arith)) ∙ (p.ends i).0,
            ap (λ (r : FileRow). r.to) (get_or-set_same t.rows i _ no_row (omega arith)) ∙ (p.ends i).1,
          )
      kept j false q =
          let d = eqb-false j i q in (
            ap (λ (r : FileRow). r.from) (get_or-set_other t.rows i j _ no_row d) ∙ (p.ends j).0,
            ap (λ (r : FileRow). r.to) (get_or-set_other t.rows i j _ no_row d) ∙ (p.ends j).1,
          )

      go : (j : ℕ) → j < i + 1 → (b : Bool) → eqb j i ≡ b → place_of (with_place t i x) j ≡ start_at c (c.folders + 1 + j)
      go j lt true q = let w = p.wide in rw (eqb-true j i q) (ap (λ (r : FileRow). r.place) (get_or-set_same t.rows i _ no_row (omega arith)) ∙ e)
      go j lt false q =
          let d = eqb-false j i q in
          ap (λ (r : FileRow). r.place) (get_or-set_other t.rows i j _ no_row d) ∙ p.put j (below_other j i lt d)
        where
          below_other : (j i : ℕ) → j < i + 1 → (j ≡ i → ⊥) → j < i
          below_other j i a b = omega arith

  pub starts-all : (t : Known) (i : ℕ) → StartsTo c t₀ t i → i ≡ c.files → StartsPut c t₀ t
  starts-all t i p h = record { files = p.files; ends = p.ends; rows = p.wide; entries = p.entries; next = p.next; put = λ j lt. p.put j (omega arith); other = λ j o. p.other j (omega arith) }
