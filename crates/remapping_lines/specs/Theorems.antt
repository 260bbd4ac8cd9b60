-- What a remapping list is answered, in words; and the section in a bundle. Assumes nothing.
use Rattle.std.specs.Prelude.{ℕ, zero, suc, ◌+◌, ◌*◌, ◌≤◌, ◌<◌, Bool, true, false, ◌≡◌, ltb, leb, get_or, take}
use native.Mathlib.Omega.{arith}
use Rattle.std.proofs.Math.Path.{refl, ap}
use Rattle.std.proofs.Common.{sym, subst, ◌∙◌, take_at, drop_at, length-take-le, ltb-true, ltb-false, lt-ltb, le-ltb, leb-true, leb-false, le-leb}
use mathlib.Core.List.{List, [], ◌∷◌, ◌++◌, append_assoc}
use Rattle.std.proofs.Math.ListN.{length, drop, length-append}
use Rattle.std.proofs.lemmas.Bool.{lt-leb}
use Rattle.names.specs.Path.{is_path}
use Rattle.bundle.specs.Bundle.{Text, Remapping, Bundle}
use Rattle.bundle.specs.Limits.{header, remapping_limit, remapping_size, folder_width, file_width}
use Rattle.bundle.specs.Encode.{two, string, count_bytes, joined, sized, remapping, file, fields, encode}
use Rattle.bundle.specs.Encode.{counted as byte-list, counted_by as count-list}
use Rattle.bundle.specs.Scan.{past_count, scan_field, scan_list}
use Rattle.bundle.specs.Decode.{far, after, after_list_by, after_remapping, remapping_at, remappings_at, files_at, decode}
use Rattle.bundle.specs.Form.{Every, FormedRemapping}
use Rattle.bundle.specs.Complete.{remapping_writ, count_writ}
use Rattle.bundle.specs.Conflicts.{or_else}
use Rattle.bundle.specs.Read.{value, read}
use Rattle.bundle.specs.Read.{verdict as read_verdict}
use Rattle.bundle.specs.Stand.{at_byte, at_count, at-append, count-length}
use Rattle.bundle.specs.Answers.{refused-ok, refused-number, refused-place, value-ok}
use Rattle.bundle.specs.First.{first_told, tested, first-only, first-all}
use Rattle.bundle.specs.declared.Width.{Width}
use Rattle.bundle.specs.declared.Width.TheVariants.{Byte}
use Rattle.bundle.specs.declared.Field.TheVariants.{Remapping as RemappingField}
use Rattle.bundle.specs.Results.{Next}
use Rattle.bundle.specs.Results.{Checked}
use Rattle.bundle.specs.Results.{Ok}
use Rattle.bundle.specs.Results.{Refused as Fault}
use Rattle.encoder.specs.Started.{started}
use Rattle.encoder.specs.Parts.{started-length}
use Rattle.remapping_lines.specs.Lines.{equals, name_size, has, Line, lines_of, left, remapping_of, target_place, name_place, unless, line_verdict, lines_verdict, verdict, remappings_of, section, lines_answer, lines_buffer}
use Rattle.remapping_lines.specs.Testing.{Passes, line_bytes, lines-pass, remapping-few}
use Rattle.remapping_lines.specs.Writing.{AllPass, Accepted, list_bytes}
use Rattle.remapping_lines.specs.Answers.{meant-length, section-is}
use Rattle.remapping_lines.specs.Lines.{Section, Refused}

-- A LINE'S REFUSALS after n lines with content, each with its number and place, where those before it don't hold
pub data Refusal (n : ℕ) (l : Line) : ℕ → ℕ → Type 0 where
  too_many : remapping_limit ≤ n → Refusal n l 3 l.place
  unsplit : n < remapping_limit → has equals l.text ≡ false → Refusal n l 52 l.place
  bad_context : n < remapping_limit → has equals l.text ≡ true → is_path (remapping_of l.text).context ≡ false → Refusal n l 4 l.place
  bad_target : n < remapping_limit → has equals l.text ≡ true → is_path (remapping_of l.text).context ≡ true
      → is_path (remapping_of l.text).target ≡ false → Refusal n l 4 (l.place + target_place l.text)
  long_name : n < remapping_limit → has equals l.text ≡ true → is_path (remapping_of l.text).context ≡ true
      → is_path (remapping_of l.text).target ≡ true → name_size < length (remapping_of l.text).name → Refusal n l 12 (l.place + name_place (left l.text))

pub line_refused : (n : ℕ) (l : Line) (w p : ℕ) → line_verdict n l ≡ Fault w p → Refusal n l w p
unfolding line_verdict
line_refused n l w p h =
    go (ltb n remapping_limit) (has equals l.text) (is_path (remapping_of l.text).context) (is_path (remapping_of l.text).target) (leb (length (remapping_of l.text).name) name_size) refl refl refl refl refl h
  where
    at : {m q : ℕ} → Refusal n l m q → Fault m q ≡ Fault w p → Refusal n l w p
    at {m} {q} r e = subst (λ (x : ℕ). Refusal n l w x) (refused-place e) (subst (λ (x : ℕ). Refusal n l x q) (refused-number e) r)

    go : (a b c d e : Bool) → ltb n remapping_limit ≡ a → has equals l.text ≡ b → is_path (remapping_of l.text).context ≡ c → is_path (remapping_of l.text).target ≡ d
        → leb (length (remapping_of l.text).name) name_size ≡ e
        → or_else (unless a 3 l.place) (or_else (unless b 52 l.place) (or_else (unless c 4 l.place) (or_else (unless d 4 (l.place + target_place l.text)) (unless e 12 (l.place + name_place (left l.text)))))) ≡ Fault w p
        → Refusal n l w p
    go false b c d e x₁ x₂ x₃ x₄ x₅ h = at (too_many (ltb-false n remapping_limit x₁)) h
    go true false c d e x₁ x₂ x₃ x₄ x₅ h = at (unsplit (ltb-true n remapping_limit x₁) x₂) h
    go true true false d e x₁ x₂ x₃ x₄ x₅ h = at (bad_context (ltb-true n remapping_limit x₁) x₂ x₃) h
    go true true true false e x₁ x₂ x₃ x₄ x₅ h = at (bad_target (ltb-true n remapping_limit x₁) x₂ x₃ x₄) h
    go true true true true false x₁ x₂ x₃ x₄ x₅ h = at (long_name (ltb-true n remapping_limit x₁) x₂ x₃ x₄ (leb-false (length (remapping_of l.text).name) name_size x₅)) h
    go true true true true true x₁ x₂ x₃ x₄ x₅ h = absurd (refused-ok (sym h))

pub line-refuses : (n : ℕ) (l : Line) {w p : ℕ} → Refusal n l w p → line_verdict n l ≡ Fault w p
unfolding line_verdict
line-refuses n l (too_many h) = rw (le-ltb n remapping_limit h)
line-refuses n l (unsplit h a) = rw (lt-ltb n remapping_limit h, a)
line-refuses n l (bad_context h a b) = rw (lt-ltb n remapping_limit h, a, b)
line-refuses n l (bad_target h a b c) = rw (lt-ltb n remapping_limit h, a, b, c)
line-refuses n l (long_name h a b c d) = rw (lt-ltb n remapping_limit h, a, b, c, lt-leb (length (remapping_of l.text).name) name_size d)

-- THE FIRST LINE that is refused decides
abbrev pub none : Line
none = record { place = 0; text = [] }

abbrev in_order : List Line → Line → Checked
in_order seen l = line_verdict (length seen) l

lines-first : (seen ls : List Line) (n : ℕ) → length seen ≡ n → lines_verdict n ls ≡ first_told in_order seen ls
unfolding lines_verdict first_told
lines-first seen [] n e = refl
lines-first seen (l ∷ ls) n e =
    let k : length (seen ++ (l ∷ [])) ≡ n + 1 = omega (arith, length-append seen (l ∷ [])) in
    ap (λ (m : ℕ). or_else (line_verdict m l) (lines_verdict (n + 1) ls)) (sym e) ∙ ap (λ (v : Checked). or_else (line_verdict (length seen) l) v) (lines-first (seen ++ (l ∷ [])) ls (n + 1) k)

pub record FirstRefused (s : Text) (w p : ℕ) : Type 0 where
  pub index : ℕ
  pub within : index < length (lines_of s)
  pub refused : Refusal index (get_or (lines_of s) index none) w p
  pub before : (j : ℕ) → j < index → line_verdict j (get_or (lines_of s) j none) ≡ Ok

in_place : (ls : List Line) (i : ℕ) → i < length ls → (v : Checked) → tested in_order none [] ls i ≡ v → line_verdict i (get_or ls i none) ≡ v
in_place ls i h v e = ap (λ (m : ℕ). line_verdict m (get_or ls i none)) (sym (length-take-le i ls (omega arith))) ∙ e

to-place : (ls : List Line) (i : ℕ) → i < length ls → (v : Checked) → line_verdict i (get_or ls i none) ≡ v → tested in_order none [] ls i ≡ v
to-place ls i h v e = ap (λ (m : ℕ). line_verdict m (get_or ls i none)) (length-take-le i ls (omega arith)) ∙ e

pub refused-only : (s : Text) (w p : ℕ) → verdict s ≡ Fault w p → FirstRefused s w p
unfolding verdict
refused-only s w p h =
    let ls = lines_of s in
    let f = first-only in_order none [] ls w p (sym (lines-first [] ls 0 refl) ∙ h) in
    let i = f.index in
    let b = f.within in
    record {
      index = i;
      within = b;
      refused = line_refused i (get_or ls i none) w p (in_place ls i b (Fault w p) f.tells);
      before = λ j k. in_place ls j (omega arith) Ok (f.before j k);
    }

pub refused_always : (s : Text) (w p : ℕ) → FirstRefused s w p → verdict s ≡ Fault w p
unfolding verdict
refused_always s w p f =
    let ls = lines_of s in
    let i = f.index in
    let b = f.within in
    lines-first [] ls 0 refl
    ∙ first-all in_order none ls [] w p i b (to-place ls i b (Fault w p) (line-refuses i (get_or ls i none) f.refused))
    (λ j k. to-place ls j (omega arith) Ok (f.before j k))

-- A LIST PASSES just where it has at most 32 lines with content, and each splits into a remapping in form
pub record Good (s : Text) : Type 0 where
  pub count : length (lines_of s) ≤ remapping_limit
  pub lines : AllPass (lines_of s)

line-good : (n : ℕ) (l : Line) → n < remapping_limit → Passes l.text → line_verdict n l ≡ Ok
unfolding line_verdict
line-good n l h p = let f = p.formed.1.0 in rw (lt-ltb n remapping_limit h, p.split, p.formed.0, p.formed.1.1, le-leb (length (remapping_of l.text).name) name_size (omega arith))

lines-good : (n : ℕ) (ls : List Line) → n + length ls ≤ remapping_limit → AllPass ls → lines_verdict n ls ≡ Ok
unfolding lines_verdict Every
lines-good n [] h p = refl
lines-good n (l ∷ ls) h p = rw (line-good n l (omega arith) p.0) (lines-good (n + 1) ls (omega arith) p.1)

pub passes-only : (s : Text) → Accepted s → Good s
unfolding verdict
passes-only s h = let p = lines-pass 0 (lines_of s) (omega arith) h in let c = p.0 in record { count = omega arith; lines = p.1 }

pub passes_always : (s : Text) → Good s → Accepted s
unfolding verdict
passes_always s g = let c = g.count in lines-good 0 (lines_of s) (omega arith) g.lines

-- THE SECTION of a list that passes is the encoder's, of the remappings meant: at most 32, in form, in line order
abbrev pub meant : Text → List Remapping
meant s = remappings_of (lines_of s)

-- the most bytes of a section
abbrev pub section_size : ℕ
section_size = 1 + remapping_limit * remapping_size

pub record Encoded (s : Text) : Type 0 where
  pub bytes : section s ≡ byte-list remapping (meant s)
  pub count : length (meant s) ≤ remapping_limit
  pub each : (i : ℕ) → i < length (lines_of s) → (d : Remapping) → get_or (meant s) i d ≡ remapping_of (get_or (lines_of s) i none).text
  pub formed : Every FormedRemapping (meant s)
  pub short : length (section s) ≤ section_size

meant-each : (ls : List Line) (i : ℕ) → i < length ls → (d : Remapping) → get_or (remappings_of ls) i d ≡ remapping_of (get_or ls i none).text
unfolding remappings_of
meant-each [] i h d = absurd (omega arith)
meant-each (l ∷ ls) zero h d = refl
meant-each (l ∷ ls) (suc i) h d = meant-each ls i (omega arith) d

meant-formed : (ls : List Line) → AllPass ls → Every FormedRemapping (remappings_of ls)
unfolding remappings_of Every
meant-formed [] p = tt
meant-formed (l ∷ ls) p = (p.0.formed, meant-formed ls p.1)

meant-short : (ls : List Line) → AllPass ls → length (line_bytes ls) ≤ remapping_size * length ls
unfolding remappings_of joined Every
meant-short [] p = omega arith
meant-short (l ∷ ls) p =
    let r = remapping-few l.text p.0.formed in
    let m = meant-short ls p.1 in
    omega (arith, length-append (remapping (remapping_of l.text)) (line_bytes ls))

pub encoded : (s : Text) → Accepted s → Encoded s
unfolding section list_bytes
encoded s h =
    let g = passes-only s h in
    let c = g.count in
    record {
      bytes = refl;
      count = let n = meant-length (lines_of s) in omega arith;
      each = meant-each (lines_of s);
      formed = meant-formed (lines_of s) g.lines;
      short = let m = meant-short (lines_of s) g.lines in omega (arith, ap length (section-is s));
    }

-- THE ANSWER and the buffer: the section at its start and the rest as it was, or nothing written
pub record Written (s : Text) (out : List ℕ) (n : ℕ) : Type 0 where
  pub passes : Accepted s
  pub long : n ≡ length (section s)
  pub room : n ≤ length out
  pub starts : take n (lines_buffer s out) ≡ section s
  pub rest : drop n (lines_buffer s out) ≡ drop n out
  pub keeps_length : length (lines_buffer s out) ≡ length out

section-length : {n m : ℕ} → Section n ≡ Section m → n ≡ m
section-length e = cc

section-not-refused : {n m p : ℕ} → Section n ≡ Refused m p → ⊥
section-not-refused e = let z : ◌≡◌ {A = ℕ} 0 1 = cc in omega arith

pub written : (s : Text) (out : List ℕ) (n : ℕ) → lines_answer s (length out) ≡ Section n → Written s out n
unfolding lines_answer lines_buffer
written s out n h = go (verdict s) (leb (length (section s)) (length out)) refl refl h
  where
    go : (v : Checked) (q : Bool) → verdict s ≡ v → leb (length (section s)) (length out) ≡ q → lines_answer s (length out) ≡ Section n → Written s out n
    go (Fault w p) q e f h = absurd (section-not-refused (sym (rw e at h)))
    go Ok false e f h = absurd (section-not-refused (sym (rw (e, f) at h)))
    go Ok true e f h =
        let l : n ≡ length (section s) = sym (section-length (rw (e, f) at h)) in
        let r = leb-true (length (section s)) (length out) f in
        let b : lines_buffer s out ≡ started (section s) out = rw (e, f) in
        record {
          passes = e;
          long = l;
          room = omega arith;
          starts = ap (take n) b ∙ take_at (section s) (drop (length (section s)) out) n (sym l);
          rest = ap (drop n) b ∙ (drop_at (section s) (drop (length (section s)) out) n (sym l) ∙ ap (λ (k : ℕ). drop k out) (sym l));
          keeps_length = ap length b ∙ started-length (section s) out r;
        }

pub nothing_written : (s : Text) (out : List ℕ) (n p : ℕ) → lines_answer s (length out) ≡ Refused n p → lines_buffer s out ≡ out
unfolding lines_buffer
nothing_written s out n p h = rw h

-- 14 just where the list passes and its section has no room; with room for the longest it never is
pub no_room-only : (s : Text) (room p : ℕ) → lines_answer s room ≡ Refused 14 p → (p ≡ 0) × (Accepted s × (room < length (section s)))
unfolding lines_answer
no_room-only s room p h = go (verdict s) (leb (length (section s)) room) refl refl h
  where
    number : {n m k q : ℕ} → Refused n k ≡ Refused m q → n ≡ m
    number e = cc

    place : {n m k q : ℕ} → Refused n k ≡ Refused m q → k ≡ q
    place e = cc

    go : (v : Checked) (q : Bool) → verdict s ≡ v → leb (length (section s)) room ≡ q → lines_answer s room ≡ Refused 14 p → (p ≡ 0) × (Accepted s × (room < length (section s)))
    go (Fault w r) q e f h =
        let k = number (rw e at h) in
        let x = refused-only s w r e in
        absurd (never x.refused k)
      where
        never : {n : ℕ} {l : Line} {w p : ℕ} → Refusal n l w p → w ≡ 14 → ⊥
        never (too_many _) k = omega (arith, k)
        never (unsplit _ _) k = omega (arith, k)
        never (bad_context _ _ _) k = omega (arith, k)
        never (bad_target _ _ _ _) k = omega (arith, k)
        never (long_name _ _ _ _ _) k = omega (arith, k)
    go Ok false e f h = (sym (place (rw (e, f) at h)), (e, leb-false (length (section s)) room f))
    go Ok true e f h = absurd (section-not-refused (rw (e, f) at h))

pub enough : (s : Text) (room p : ℕ) → section_size ≤ room → lines_answer s room ≡ Refused 14 p → ⊥
enough s room p h e = let x = no_room-only s room p e in let l = (encoded s x.1.0).short in let r = x.1.1 in omega arith

-- THE SECTION IN A BUNDLE: b with other bytes at its remappings' place, and b with other remappings
abbrev pub with_section : Bundle → List ℕ → List ℕ
with_section b bytes =
    b.version
    ∷ sized (string b.root ++ (count-list (folder_width b.version) string b.folders ++ (bytes ++ count-list (file_width b.version) file b.files)))

abbrev pub with_remappings : Bundle → List Remapping → Bundle
with_remappings b rs = record { version = b.version; root = b.root; folders = b.folders; remappings = rs; files = b.files }

pub same_bytes : (b : Bundle) (s : Text) → with_section b (section s) ≡ encode (with_remappings b (meant s))
unfolding encode fields section
same_bytes b s = refl

-- in any bytes where the section of a list that passes stands at the remappings' place, these are the remappings meant, and the scan passes
-- them without a refusal
pub record Stood (s : Text) (bytes : List ℕ) (end at : ℕ) : Type 0 where
  pub reads : at ≡ remappings_at bytes → (decode bytes).remappings ≡ meant s
  pub scans : scan_list Byte RemappingField remapping_limit bytes end at ≡ Next (at + length (section s))
  pub ends : at ≡ remappings_at bytes → files_at bytes ≡ at + length (section s)

pub stood : (s : Text) → Accepted s → (bytes rest : List ℕ) (end at : ℕ) → drop at bytes ≡ section s ++ rest → at + length (section s) ≤ end → Stood s bytes end at
unfolding section byte-list scan_list decode
stood s h bytes rest end at e k =
    let c = encoded s h in
    let w = count_writ bytes end Byte FormedRemapping remapping (after_remapping bytes) (remapping_at bytes) (scan_field RemappingField bytes end) (remapping_writ bytes end) 0 remapping_limit (meant s) at rest (omega arith) c.count c.formed e k in
    record {
      reads = λ i. rw (← i) w.gets;
      scans = w.scans;
      ends = λ i. rw (← i) w.skips;
    }

-- WHERE THE REMAPPINGS OF A BUNDLE STAND, whatever its other fields are
module _ (bytes : List ℕ) where
  past-string : (t : Text) (at : ℕ) (rest : List ℕ) → drop at bytes ≡ string t ++ rest → after bytes at ≡ at + length (string t)
  unfolding string
  past-string t at rest e = let n = (at_byte bytes at (length t) (t ++ rest) e).0 in omega arith

  past_strings : (l : List Text) (at : ℕ) (rest : List ℕ) → drop at bytes ≡ joined string l ++ rest → far (after bytes) (length l) at ≡ at + length (joined string l)
  unfolding far joined
  past_strings [] at rest e = omega arith
  past_strings (t ∷ l) at rest e =
      let e₁ : drop at bytes ≡ string t ++ (joined string l ++ rest) = e ∙ append_assoc (string t) (joined string l) rest in
      let a = past-string t at (joined string l ++ rest) e₁ in
      let b = past_strings l (at + length (string t)) rest (at-append bytes at (string t) (joined string l ++ rest) e₁) in
      ap (λ (n : ℕ). far (after bytes) (length l) n) a ∙ (b ∙ omega (arith, length-append (string t) (joined string l)))

  past-list : (w : Width) (l : List Text) (at : ℕ) (rest : List ℕ) → drop at bytes ≡ count-list w string l ++ rest → after_list_by w (after bytes) bytes at ≡ at + length (count-list w string l)
  past-list w l at rest e =
      let c = at_count bytes w at (length l) (joined string l ++ rest) (e ∙ append_assoc (count_bytes w (length l)) (joined string l) rest) in
      let b = past_strings l (past_count w at) rest c.1 in
      ap (λ (n : ℕ). far (after bytes) n (past_count w at)) c.0
      ∙ (b ∙ omega (arith, length-append (count_bytes w (length l)) (joined string l), count-length bytes w (length l)))

module _ (b : Bundle) (mid : List ℕ) where
  abbrev bytes_of : List ℕ
  bytes_of = with_section b mid

  abbrev fields_of : List ℕ
  fields_of = string b.root ++ (count-list (folder_width b.version) string b.folders ++ (mid ++ count-list (file_width b.version) file b.files))

  behind-header : drop header bytes_of ≡ fields_of
  unfolding sized two
  behind-header = refl

  remappings-place : drop (remappings_at bytes_of) bytes_of ≡ mid ++ count-list (file_width b.version) file b.files
  remappings-place =
      let X = string b.root in
      let Y = count-list (folder_width b.version) string b.folders in
      let Z = mid ++ count-list (file_width b.version) file b.files in
      let a = past-string bytes_of b.root header (Y ++ Z) behind-header in
      let e = at-append bytes_of header X (Y ++ Z) behind-header in
      let p = past-list bytes_of (folder_width b.version) b.folders (header + length X) Z e in
      let q : remappings_at bytes_of ≡ header + length X + length Y = ap (λ (n : ℕ). after_list_by (folder_width b.version) (after bytes_of) bytes_of n) a ∙ p in
      ap (λ (n : ℕ). drop n bytes_of) q ∙ at-append bytes_of (header + length X) Y Z e

-- A bundle that is accepted with the section of a list at its remappings' place has the remappings meant
pub accepted-remappings : (b : Bundle) (s : Text) → Accepted s → (b' : Bundle) → read (with_section b (section s)) ≡ value b' → b'.remappings ≡ meant s
unfolding read
accepted-remappings b s h b' e =
    let bytes = with_section b (section s) in
    let at = remappings_at bytes in
    let v = value-ok (read_verdict bytes) (decode bytes) b' e in
    let k = stood s h bytes (count-list (file_width b.version) file b.files) (at + length (section s)) at (remappings-place b (section s)) (omega arith) in
    ap (λ (x : Bundle). x.remappings) (sym v.1) ∙ k.reads refl
