-- WHAT HOLDS OF EVERY BUNDLE. Bytes are a value exactly where they are its encoding and it is well-formed; two values never
-- share bytes; refusal and acceptance exclude each other; marks are offsets, and different. Assumes nothing.
use Rattle.std.specs.Prelude.{ℕ, ◌+◌, ◌<◌, ◌≡◌, List, [], ◌++◌, length, get_or, drop}
use Rattle.std.proofs.Common.{arith, sym, ap, ◌∙◌, append-nil, append_assoc}
use Rattle.bundle.specs.Bundle.{Bundle, File}
use Rattle.bundle.specs.Limits.{header, folder_width, file_width}
use Rattle.bundle.specs.Encode.{string, count_bytes, joined, sized, remapping, file, fields, encode}
use Rattle.bundle.specs.Encode.{counted as byte-list, counted_by as count-list}
use Rattle.bundle.specs.Scan.{past_count}
use Rattle.bundle.specs.Decode.{decode}
use Rattle.bundle.specs.Answers.{value-ok}
use Rattle.bundle.specs.Form.{Unconflicted, WellFormed, first_file}
use Rattle.bundle.specs.Stand.{Bytes, at_count, at-append}
use Rattle.bundle.specs.SoundBundle.{form-sound, both-pass}
use Rattle.bundle.specs.CompleteBundle.{form-complete}
use Rattle.bundle.specs.Free.{conflicts-free, free-conflicts}
use Rattle.bundle.specs.Marks.{file_marks, rising-less, files-rising, FoundFiles, files-found, behind-length}
use Rattle.bundle.specs.Read.{verdict, value, refused, read}
use Rattle.bundle.specs.declared.Width.{Width}
use Rattle.bundle.specs.Results.{Ok, Refused}

-- REFUSAL AND ACCEPTANCE
pub exclusive : (s : List ℕ) (b : Bundle) (n p : ℕ) → read s ≡ value b → read s ≡ refused n p → ⊥
exclusive s b n p h k = let z : ◌≡◌ {A = ℕ} 0 1 = cc in omega arith

-- the check's answer and what is read
pub accepted : (s : List ℕ) → verdict s ≡ Ok → read s ≡ value (decode s)
unfolding read
accepted s h = rw h

pub told : (s : List ℕ) (n p : ℕ) → verdict s ≡ Refused n p → read s ≡ refused n p
unfolding read
told s n p h = rw h

-- ACCEPTED BYTES are the encoding of their value, which is well-formed
pub sound : (s : List ℕ) → Bytes s → (b : Bundle) → read s ≡ value b → (s ≡ encode b) × WellFormed b
unfolding read
sound s B b h =
    let v = value-ok (verdict s) (decode s) b h in
    let w = both-pass s v.0 in
    let f = form-sound s B w.0 in
    let c = conflicts-free s w.1 in
    let w' : WellFormed (decode s) = record { form = f.formed; free = c } in
    (f.encoded ∙ ap encode v.1, rw v.1 at w')

-- THE ENCODING of a well-formed value is accepted, and gives the value back
pub complete : (b : Bundle) → WellFormed b → read (encode b) ≡ value b
unfolding read verdict
complete b w =
    let c = form-complete b w.form in
    let u : Unconflicted (decode (encode b)) = rw c.decoded w.free in
    rw (c.formed, free-conflicts (encode b) u) (ap value c.decoded)

-- both directions
pub record Exactly (s : List ℕ) (b : Bundle) : Type 0 where
  pub only : read s ≡ value b → (s ≡ encode b) × WellFormed b
  pub all : (s ≡ encode b) × WellFormed b → read s ≡ value b

pub exactly : (s : List ℕ) → Bytes s → (b : Bundle) → Exactly s b
exactly s B b = record { only = sound s B b; all = λ h. rw h.0 (complete b h.1) }

-- TWO VALUES never share bytes
pub unique : (a b : Bundle) → WellFormed a → WellFormed b → encode a ≡ encode b → a ≡ b
unique a b p q e =
    let x = complete a p in
    let y = complete b q in
    let z : read (encode a) ≡ read (encode b) = ap read e in
    cc

-- and two versions never do
pub one-version : (a b : Bundle) → WellFormed a → WellFormed b → encode a ≡ encode b → a.version ≡ b.version
one-version a b p q e = ap (λ (x : Bundle). x.version) (unique a b p q e)

-- MARKS
count-behind : (s : List ℕ) (w : Width) (l : List File) (at : ℕ) → drop at s ≡ count-list w file l ++ [] → drop (past_count w at) s ≡ joined file l ++ []
count-behind s w l at e = (at_count s w at (length l) (joined file l ++ []) (e ∙ append_assoc (count_bytes w (length l)) (joined file l) [])).1

behind-fields : (b : Bundle) → drop (first_file b) (encode b) ≡ joined file b.files ++ []
unfolding encode fields
behind-fields b =
    let X1 = string b.root in
    let X2 = count-list (folder_width b.version) string b.folders in
    let X3 = byte-list remapping b.remappings in
    let X4 = count-list (file_width b.version) file b.files in
    let e : drop 1 (encode b) ≡ sized (fields b) ++ [] = sym (append-nil (sized (fields b))) in
    let e0 : drop header (encode b) ≡ X1 ++ ((X2 ++ (X3 ++ X4)) ++ []) = behind-length (encode b) 1 (fields b) [] e ∙ append_assoc X1 (X2 ++ (X3 ++ X4)) [] in
    let e1 = at-append (encode b) header X1 ((X2 ++ (X3 ++ X4)) ++ []) e0 ∙ append_assoc X2 (X3 ++ X4) [] in
    let e2 = at-append (encode b) (header + length X1) X2 ((X3 ++ X4) ++ []) e1 ∙ append_assoc X3 X4 [] in
    let e3 = at-append (encode b) (header + length X1 + length X2) X3 (X4 ++ []) e2 in
    count-behind (encode b) (file_width b.version) b.files (header + length X1 + length X2 + length X3) e3

-- every mark of an accepted bundle is the offset at which its item's bytes stand
pub marks-are_offsets : (b : Bundle) → WellFormed b → FoundFiles (encode b) b.files
marks-are_offsets b w = files-found (encode b) b.files (first_file b) [] w.form.marks (behind-fields b)

-- and marks are different: they rise
pub marks-rise : (b : Bundle) → WellFormed b → (i j : ℕ) → i < j → j < length (file_marks b.files) → get_or (file_marks b.files) i 0 < get_or (file_marks b.files) j 0
marks-rise b w i j h k = rising-less (file_marks b.files) (first_file b) _ i j (files-rising (encode b) b.files (first_file b) w.form.marks) h k
