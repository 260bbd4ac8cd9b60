-- What is kept of the lookups: for a file by its index where its entries begin and end, and the entries, one for each use. Assumes nothing.
use Rattle.std.specs.Prelude.{ℕ, suc, ◌+◌, ◌-◌, ◌≤◌, ◌<◌, Bool, true, false, ltb, eqb, ◌≡◌, refl, Option, None, length, get_or, set, drop}
use Rattle.std.proofs.Common.{arith, eqb-true, ltb-true, ltb-false, sym, ap, subst, ◌∙◌, length-set, get_or-set_same, get_or-set_other, get_or-take, get_or-drop, length-drop, length-take-le}
use Rattle.std.specs.List.Sorted.{IsPartitionedBy, IsPartitionPoint}
use Rattle.std.proofs.lemmas.List.Sorted.{IsPartitionedBy-ltb}
use borrow.Rule.Slice.PartMut.{mid_of}
use Rattle.std.proofs.lemmas.Bool.{eqb-false}
use mathlib.Core.List.{List, [], ◌∷◌, ◌++◌, map, map-append, Memᴰ}
use Rattle.std.proofs.lemmas.List.{length-map}
use Rattle.std.proofs.Math.ListN.{get_or-map}
use Rattle.names.specs.Bytes.{same}
use Rattle.bundle.specs.Bundle.{Text, Items, none, named, use_of, module_of, ignored, File, Bundle}
use Rattle.bundle.specs.Limits.{file_limit, use_limit}
use Rattle.bundle.specs.Form.{WellFormed, first_file}
use Rattle.bundle.specs.Marks.{marks_of, file_marks, Rising, rising-less, files-rising}
use Rattle.bundle.specs.Encode.{encode}
use Rattle.resolution.specs.Lists.{Lists}
use Rattle.resolution.specs.Resolution.{resolve_path_internal}
use Rattle.resolution.specs.Told.{answered}
use Rattle.std.specs.Result.{result_ok}
use Rattle.resolution.specs.declared.Found.{Found}
use Rattle.discovery.specs.declared.known.Known.{Known}
use Rattle.discovery.specs.declared.known.FileRow.{FileRow}
use Rattle.discovery.specs.declared.known.Entry.{Entry}
use Rattle.discovery.specs.Discovery.{Use, uses, program_of}
use Rattle.discovery.specs.Facts.{cond_elim, mem_get_d, get_d_any}

-- THE PARTS: of a file by its index, where its entries begin and end, and where it stands in the bundle; and entry i
abbrev pub no_row : FileRow
no_row = record { from = 0; to = 0; place = 0 }

abbrev pub no_entry : Entry
no_entry = record { mark = 0; found = None }

abbrev pub row_of : Known → ℕ → FileRow
row_of t index = get_or t.rows index no_row

abbrev pub from_of : Known → ℕ → ℕ
from_of t index = (row_of t index).from

abbrev pub to_of : Known → ℕ → ℕ
to_of t index = (row_of t index).to

abbrev pub place_of : Known → ℕ → ℕ
place_of t index = (row_of t index).place

abbrev pub entry_of : Known → ℕ → Entry
entry_of t i = get_or t.entries i no_entry

abbrev pub mark_of : Known → ℕ → ℕ
mark_of t i = (entry_of t i).mark

-- what is kept of a use
abbrev pub entry_for : Lists → Text → Use → Entry
entry_for l file u = record { mark = u.mark; found = result_ok (answered l (resolve_path_internal l file u.segments)) }

abbrev pub no_use : Use
no_use = record { mark = 0; segments = [] }

-- as many rows as files, and as many entries as uses
pub record Wide (t : Known) : Type 0 where
  pub rows : length t.rows ≡ file_limit
  pub entries : length t.entries ≡ use_limit

-- THE ENTRIES OF A FILE are those of its uses, in their order
pub record Row (t : Known) (index : ℕ) (l : Lists) (file : Text) (us : List Use) : Type 0 where
  pub ends : to_of t index ≡ from_of t index + length us
  pub fits : to_of t index ≤ use_limit
  pub entries : (j : ℕ) → j < length us → entry_of t (from_of t index + j) ≡ entry_for l file (get_or us j no_use)

-- ROOM FOR MORE
abbrev pub begun : Known → ℕ → ℕ → Known
begun t index n = record t { rows = set t.rows index (record { from = t.next; to = t.next + n; place = place_of t index }); next = t.next + n }

pub begun-wide : (t : Known) (index n : ℕ) → Wide t → Wide (begun t index n)
begun-wide t index n w = record { rows = length-set t.rows index _ ∙ w.rows; entries = w.entries }

module _ (t : Known) (wide : length t.rows ≡ file_limit) (index n : ℕ) (small : index < file_limit) where
  pub begun-row : row_of (begun t index n) index ≡ record { from = t.next; to = t.next + n; place = place_of t index }
  begun-row = get_or-set_same t.rows index _ no_row (omega arith)

  pub begun-other : (j : ℕ) → (j ≡ index → ⊥) → row_of (begun t index n) j ≡ row_of t j
  begun-other j d = get_or-set_other t.rows index j _ no_row d

  pub begun-place : (j : ℕ) → place_of (begun t index n) j ≡ place_of t j
  begun-place j = go (eqb j index) refl
    where
      go : (b : Bool) → eqb j index ≡ b → place_of (begun t index n) j ≡ place_of t j
      go true q = rw (eqb-true j index q) (ap (λ (r : FileRow). r.place) begun-row)
      go false q = ap (λ (r : FileRow). r.place) (begun-other j (eqb-false j index q))

-- ONE MORE ENTRY
abbrev pub with_entry : Known → ℕ → ℕ → Option Found → Known
with_entry t i mark found = record t { entries = set t.entries i (record { mark = mark; found = found }) }

-- THE FIRST n USES of a file, from the entry `first` on
pub record Fills (l : Lists) (file : Text) (t r : Known) (first : ℕ) (us : List Use) (n : ℕ) : Type 0 where
  pub wide : length r.entries ≡ length t.entries
  pub files : r.files ≡ t.files
  pub rows : r.rows ≡ t.rows
  pub next : r.next ≡ t.next
  pub before : (i : ℕ) → i < first → entry_of r i ≡ entry_of t i
  pub entries : (j : ℕ) → j < n → entry_of r (first + j) ≡ entry_for l file (get_or us j no_use)

module _ (l : Lists) (file : Text) (t : Known) (first : ℕ) (us : List Use) where
  pub fills_none : Fills l file t t first us 0
  fills_none = record { wide = refl; files = refl; rows = refl; next = refl; before = λ i h. refl; entries = λ j h. absurd (omega arith) }

  pub fills_one : (r : Known) (i : ℕ) (u : Use) (x : Option Found) → first + i < length t.entries → Fills l file t r first us i → get_or us i no_use ≡ u
      → x ≡ result_ok (answered l (resolve_path_internal l file u.segments)) → Fills l file t (with_entry r (first + i) u.mark x) first us (i + 1)
  fills_one r i u x lt f is e = record {
    wide = length-set r.entries (first + i) _ ∙ f.wide;
    files = f.files;
    rows = f.rows;
    next = f.next;
    before = λ j h. get_or-set_other r.entries (first + i) j _ no_entry (λ z. omega arith) ∙ f.before j h;
    entries = λ j h. go j h (eqb j i) refl;
  }
    where
      go : (j : ℕ) → j < i + 1 → (b : Bool) → eqb j i ≡ b → entry_of (with_entry r (first + i) u.mark x) (first + j) ≡ entry_for l file (get_or us j no_use)
      go j h true q =
          let w = f.wide in
          rw (eqb-true j i q, is, ← e) (get_or-set_same r.entries (first + i) _ no_entry (omega arith))
      go j h false q =
          let d = eqb-false j i q in
          get_or-set_other r.entries (first + i) (first + j) _ no_entry (λ z. d (omega arith)) ∙ f.entries j (other j i h d)
        where
          other : (j i : ℕ) → j < i + 1 → (j ≡ i → ⊥) → j < i
          other j i a b = omega arith

-- A SEARCH among the entries of a file, whose marks rise
pub record Held (t : Known) (index mark : ℕ) : Type 0 where
  pub small : index < file_limit
  pub fits : to_of t index ≤ use_limit
  pub rising : (i j : ℕ) → from_of t index ≤ i → i < j → j < to_of t index → mark_of t i < mark_of t j
  pub place : ℕ
  pub from : from_of t index ≤ place
  pub to : place < to_of t index
  pub is : mark_of t place ≡ mark

-- what the use at a mark resolved to
pub record Finds (t : Known) (index mark : ℕ) (x : Option Found) : Type 0 where
  pub place : ℕ
  pub from : from_of t index ≤ place
  pub to : place < to_of t index
  pub is : entry_of t place ≡ record { mark = mark; found = x }

-- as the code searches: the entries of a file, and those before a mark
abbrev pub entries_of : Known → ℕ → List Entry
entries_of t index = mid_of (from_of t index) (to_of t index - from_of t index) t.entries

abbrev pub is_before : ℕ → Entry → Bool
is_before mark e = ltb e.mark mark

module _ {t : Known} {index mark : ℕ} (h : Held t index mark) (wide : length t.entries ≡ use_limit) where
  pub entries-length : length (entries_of t index) ≡ to_of t index - from_of t index
  entries-length = let f = h.fits in let a = h.from in let b = h.to in length-take-le (to_of t index - from_of t index) (drop (from_of t index) t.entries) (omega (arith, length-drop (from_of t index) t.entries))

  entry-at : (k : ℕ) (d : Entry) → k < to_of t index - from_of t index → get_or (entries_of t index) k d ≡ entry_of t (from_of t index + k)
  entry-at k d lt =
      get_or-take (to_of t index - from_of t index) (drop (from_of t index) t.entries) k d lt
      ∙ (get_or-drop (from_of t index) t.entries k d ∙ get_d_any t.entries (from_of t index + k) d no_entry (let f = h.fits in omega arith))

  pub entries-parted : IsPartitionedBy (is_before mark) (entries_of t index)
  entries-parted = IsPartitionedBy-ltb (λ (e : Entry). e.mark) (entries_of t index) mark (λ i j d le lt. go i j d le (omega (arith, entries-length)) (eqb i j) refl)
    where
      go : (i j : ℕ) (d : Entry) → i ≤ j → j < to_of t index - from_of t index → (b : Bool) → eqb i j ≡ b → (get_or (entries_of t index) i d).mark ≤ (get_or (entries_of t index) j d).mark
      go i j d le lt true q = rw (eqb-true i j q) (omega arith)
      go i j d le lt false q =
          let n = eqb-false i j q in
          let r = h.rising (from_of t index + i) (from_of t index + j) (omega arith) (omega arith) (omega arith) in
          rw (entry-at i d (omega arith), entry-at j d lt) (omega arith)

  -- the first that is not before the mark has it
  module _ (r : ℕ) (p : IsPartitionPoint (λ e. is_before mark e ≡ true) (λ e. is_before mark e ≡ false) (entries_of t index) r) where
    point-is : r ≡ h.place - from_of t index
    point-is = same-point r (h.place - from_of t index) (λ lt. at_place (p.0 (h.place - from_of t index) no_entry (omega arith) lt)) (λ lt. before-place lt (p.1 r no_entry (omega arith) (within lt)))
      where
        inside : h.place - from_of t index < to_of t index - from_of t index
        inside = let a = h.from in let b = h.to in omega arith

        within : r < h.place - from_of t index → r < length (entries_of t index)
        within lt = let a = inside in omega (arith, entries-length)

        at_place : is_before mark (get_or (entries_of t index) (h.place - from_of t index) no_entry) ≡ true → ⊥
        at_place e =
            let z : from_of t index + (h.place - from_of t index) ≡ h.place = let a = h.from in omega arith in
            let m = ap (λ (x : Entry). x.mark) (entry-at (h.place - from_of t index) no_entry inside) ∙ (ap (mark_of t) z ∙ h.is) in
            let l = ltb-true _ _ e in
            omega arith

        before-place : r < h.place - from_of t index → is_before mark (get_or (entries_of t index) r no_entry) ≡ false → ⊥
        before-place lt e =
            let a = h.from in
            let b = h.to in
            let i = inside in
            let m = ap (λ (x : Entry). x.mark) (entry-at r no_entry (omega arith)) in
            let g = h.rising (from_of t index + r) h.place (omega arith) (omega arith) (omega arith) in
            let l = ltb-false _ _ e in
            let q = h.is in
            omega arith

        same-point : (m n : ℕ) → (n < m → ⊥) → (m < n → ⊥) → m ≡ n
        same-point m n a b = omega arith

    pub point-inside : r < length (entries_of t index)
    point-inside = let a = h.from in let b = h.to in let e = point-is in omega (arith, entries-length)

    pub finds : (d : Entry) → Finds t index mark (get_or (entries_of t index) r d).found
    finds d =
        let a = h.from in
        let b = h.to in
        let e = point-is in
        let i : r < to_of t index - from_of t index = omega arith in
        let z : from_of t index + r ≡ h.place = omega arith in
        record {
          place = from_of t index + r;
          from = omega arith;
          to = omega arith;
          is = same-entry (entry_of t (from_of t index + r)) (ap (mark_of t) z ∙ h.is) (ap (λ (x : Entry). x.found) (sym (entry-at r d i)));
        }
      where
        same-entry : (x : Entry) → x.mark ≡ mark → x.found ≡ (get_or (entries_of t index) r d).found → ◌≡◌ {A = Entry} x (record { mark = mark; found = (get_or (entries_of t index) r d).found })
        same-entry x p q =
            ap (λ (m : ℕ). record { mark = m; found = x.found }) p ∙ ap (λ (f : Option Found). record { mark = mark; found = f }) q

-- MARKS RISE from use to use
abbrev pub Rises : List Use → Type 0
Rises us = (i j : ℕ) → i < j → j < length us → (get_or us i no_use).mark < (get_or us j no_use).mark

abbrev marks_in : List Use → List ℕ
marks_in us = map (λ (u : Use). u.mark) us

rising-append : (l l' : List ℕ) (a b c : ℕ) → Rising a b l → Rising b c l' → Rising a c (l ++ l')
unfolding Rising
rising-append [] [] a b c p q = omega arith
rising-append [] (m ∷ l') a b c p q = (omega (arith, q.0), q.1)
rising-append (m ∷ l) l' a b c p q = (p.0, rising-append l l' (suc m) b c p.1 q)

rising-split : (l l' : List ℕ) (a c : ℕ) → Rising a c (l ++ l') → (b : ℕ) × (Rising a b l × Rising b c l')
unfolding Rising
rising-split [] l' a c p = (a, (omega arith, p))
rising-split (m ∷ l) l' a c p = let r = rising-split l l' (suc m) c p.1 in (r.0, ((p.0, r.1.0), r.1.1))

rising-from : (l : List ℕ) (a b c : ℕ) → a ≤ b → Rising b c l → Rising a c l
unfolding Rising
rising-from [] a b c h p = omega arith
rising-from (m ∷ l) a b c h p = (omega (arith, p.0), p.1)

uses-rising : (x : Items) (a c : ℕ) → Rising a c (marks_of x) → Rising a c (marks_in (uses x))
unfolding Rising marks_of uses
uses-rising none a c p = p
uses-rising (named head rest) a c p = rising-from (marks_in (uses rest)) a (suc head.mark) c (omega (arith, p.0)) (uses-rising rest (suc head.mark) c p.1)
uses-rising (use_of m v segments elements rest) a c p = (p.0, uses-rising rest (suc m) c p.1)
uses-rising (module_of m v name inner rest) a c p =
    let r = rising-split (marks_of inner) (marks_of rest) (suc m) c p.1 in
    let z = rising-append (marks_in (uses inner)) (marks_in (uses rest)) (suc m) r.0 c (uses-rising inner (suc m) r.0 r.1.0) (uses-rising rest r.0 c r.1.1) in
    rising-from (marks_in (uses inner ++ uses rest)) a (suc m) c (omega (arith, p.0)) (subst (Rising (suc m) c) (sym (map-append (λ (u : Use). u.mark) (uses inner) (uses rest))) z)
uses-rising (ignored m v rest) a c p = rising-from (marks_in (uses rest)) a (suc m) c (omega (arith, p.0)) (uses-rising rest (suc m) c p.1)

rises_by : (us : List Use) (a c : ℕ) → Rising a c (marks_in us) → Rises us
rises_by us a c r i j h k =
    let n = length-map us (λ (u : Use). u.mark) in
    let z = rising-less (marks_in us) a c i j r h (omega arith) in
    let x = get_or-map (λ (u : Use). u.mark) us i no_use in
    let y = get_or-map (λ (u : Use). u.mark) us j no_use in
    omega arith

files-rise : (fs : List File) (p : Text) (a c : ℕ) → Rising a c (file_marks fs) → Rises (uses (program_of fs p))
unfolding file_marks program_of uses
files-rise [] p a c r = λ i j h k. absurd (omega arith)
files-rise (f ∷ fs) p a c r =
    let z = rising-split (marks_of f.items) (file_marks fs) a c r in
    cond_elim (λ (x : Items). Rises (uses x)) (same p f.path) (λ e. rises_by (uses f.items) a z.0 (uses-rising f.items a z.0 z.1.0)) (λ e. files-rise fs p z.0 c z.1.1)

-- the marks of a file's uses rise
pub uses-rise : (b : Bundle) → WellFormed b → (p : Text) → Rises (uses (program_of b.files p))
uses-rise b w p = files-rise b.files p (first_file b) _ (files-rising (encode b) b.files (first_file b) w.form.marks)

-- EVERY USE OF A FILE IS FOUND
module _ {t : Known} {index : ℕ} {l : Lists} {file : Text} {us : List Use} (small : index < file_limit) (w : Row t index l file us) (rise : Rises us) where
  row-rising : (i j : ℕ) → from_of t index ≤ i → i < j → j < to_of t index → mark_of t i < mark_of t j
  row-rising i j h k m =
      let e = w.ends in
      let x = i - from_of t index in
      let y = j - from_of t index in
      let ix : from_of t index + x ≡ i = omega arith in
      let jy : from_of t index + y ≡ j = omega arith in
      let lx : x < length us = omega arith in
      let ly : y < length us = omega arith in
      let ei = ap (λ (n : ℕ). mark_of t n) (sym ix) ∙ ap (λ (z : Entry). z.mark) (w.entries x lx) in
      let ej = ap (λ (n : ℕ). mark_of t n) (sym jy) ∙ ap (λ (z : Entry). z.mark) (w.entries y ly) in
      let r = rise x y (omega arith) ly in
      omega arith

  module _ (u : Use) (m : Memᴰ u us) where
    here : (i : ℕ) × ((from_of t index ≤ i) × ((i < to_of t index) × (entry_of t i ≡ entry_for l file u)))
    here =
        let g = mem_get_d no_use m in
        let e = w.ends in
        (from_of t index + g.0, (omega arith, (omega (arith, g.1.0), w.entries g.0 g.1.0 ∙ ap (entry_for l file) g.1.1)))

    pub held : Held t index u.mark
    held = record {
      small = small;
      fits = w.fits;
      rising = row-rising;
      place = here.0;
      from = here.1.0;
      to = here.1.1.0;
      is = ap (λ (z : Entry). z.mark) here.1.1.1;
    }

    pub found : (x : Option Found) → Finds t index u.mark x → x ≡ result_ok (answered l (resolve_path_internal l file u.segments))
    found x f =
        let q : f.place ≡ here.0 = one f.place here.0 f.from f.to here.1.0 here.1.1.0 (ap (λ (z : Entry). z.mark) f.is ∙ sym (ap (λ (z : Entry). z.mark) here.1.1.1)) in
        ap (λ (z : Entry). z.found) (sym f.is ∙ (ap (entry_of t) q ∙ here.1.1.1))
      where
        one : (i j : ℕ) → from_of t index ≤ i → i < to_of t index → from_of t index ≤ j → j < to_of t index → mark_of t i ≡ mark_of t j → i ≡ j
        one i j a b c d e =
            let x : i < j → ⊥ = λ z. let r = row-rising i j a z d in omega arith in
            let y : j < i → ⊥ = λ z. let r = row-rising j i c z b in omega arith in
            apart i j x y
          where
            apart : (i j : ℕ) → (i < j → ⊥) → (j < i → ⊥) → i ≡ j
            apart i j x y = omega arith

-- THE FILES in front leave the rest as it is
pub row_put : (t : Known) (files : List ℕ) (index : ℕ) (l : Lists) (file : Text) (us : List Use) → Row t index l file us → Row (record t { files = files }) index l file us
row_put t files index l file us w = record { ends = w.ends; fits = w.fits; entries = w.entries }
