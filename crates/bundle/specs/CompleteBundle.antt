-- What the encoder writes of a bundle in form passes 1 to 6, and gives the bundle back. Assumes nothing.
use Prim.Native.Nat.{ℕ, suc, ◌+◌, ◌-◌, ◌/◌, ◌%◌, ◌≤◌}
use native.Mathlib.Omega.{arith}
use Rattle.std.proofs.Math.Bool.{true}
use Rattle.std.specs.Prelude.{◌≡◌}
use Rattle.std.proofs.Math.Path.{refl, sym, ap}
use Rattle.std.proofs.Common.{subst, ◌∙◌}
use mathlib.Core.List.{List, [], ◌∷◌, ◌++◌, append-nil, append_assoc}
use Rattle.std.proofs.Math.ListN.{length, drop, length-append}
use borrow.Author.Tests.{le-ltb, le-leb, eq-eqb}
use Rattle.names.specs.Path.{is_path}
use Rattle.bundle.specs.Bundle.{File, Bundle}
use Rattle.bundle.specs.Limits.{defined, header, width, folder_width, file_width, most_folders, remapping_limit, most_files, item_limit, most_uses, depth_limit}
use Rattle.bundle.specs.Encode.{two, string, joined, sized, items, remapping, file, fields, encode}
use Rattle.bundle.specs.Encode.{counted as byte-list, counted_by as count-list}
use Rattle.bundle.specs.Scan.{word, text, version_of, past_count, scan_path, scan_field, scan_list, scan_length, scan_end, scan_file, scan_files, scan_header}
use Rattle.bundle.specs.Decode.{each, after, after_remapping, after_length, after_file, remapping_at, file_at, decode}
use Rattle.bundle.specs.Form.{Every, IsPath, FormedRemapping, FormedFile, Marked, MarkedFiles, item_count, use_count, file_items, file_uses, InForm}
use Rattle.bundle.specs.Stand.{at_byte, at-append, sized-length}
use Rattle.bundle.specs.Complete.{formed_writ, remapping_writ, count-byte, count_writ}
use Rattle.bundle.specs.CompleteItems.{items_writ}
use Rattle.bundle.specs.Read.{form, lists, files}
use Rattle.bundle.specs.declared.Width.TheVariants.{Byte}
use Rattle.bundle.specs.Results.{Next}
use Rattle.bundle.specs.Results.{Past}
use Rattle.bundle.specs.declared.Field.TheVariants.{Remapping as RemappingField}
use Rattle.bundle.specs.Results.{Ok}

module _ (s : List ℕ) where
  sized_writ : (body : List ℕ) (at : ℕ) (rest : List ℕ) → drop at s ≡ sized body ++ rest → (word s at ≡ length body) × (drop (at + 2) s ≡ body ++ rest)
  unfolding sized two
  sized_writ body at rest e =
      let n = length body in
      let a = at_byte s at (n / 256) ((n % 256) ∷ (body ++ rest)) e in
      let b = at_byte s (at + 1) (n % 256) (body ++ rest) a.1 in
      let z2 : at + 1 + 1 ≡ at + 2 = omega arith in
      let x = a.0 in
      let y = b.0 in
      (omega arith, rw z2 at b.1)

  length-scans : (end at : ℕ) → after_length s at ≤ end → scan_length s end at ≡ Next (after_length s at)
  unfolding scan_length
  length-scans end at h =
      let a1 : at + 2 ≤ end = omega arith in
      let a2 : word s at ≤ end - (at + 2) = omega arith in
      rw (le-leb (at + 2) end a1, le-leb (word s at) (end - (at + 2)) a2)

  -- FILES
  record FileWrit (end at c u : ℕ) (f : File) : Type 0 where
    scans : scan_file s end at c u ≡ Past (at + length (file f)) (c + item_count f.items) (u + use_count f.items)
    gets : file_at s at ≡ f
    skips : after_file s at ≡ at + length (file f)

  file_writ : (f : File) (end at c u : ℕ) (rest : List ℕ) → FormedFile f → Marked f.items (at + length (string f.path) + 2) → drop at s ≡ file f ++ rest
      → at + length (file f) ≤ end → c + item_count f.items ≤ item_limit → u + use_count f.items ≤ most_uses (version_of s) → FileWrit end at c u f
  unfolding scan_file file_at file
  file_writ f end at c u rest p mk e h hc hu =
      let X = string f.path in
      let Y = sized (items f.items) in
      let len : length (X ++ Y) ≡ length X + length Y = length-append X Y in
      let ly = sized-length s (items f.items) in
      let e1 : drop at s ≡ X ++ (Y ++ rest) = e ∙ append_assoc X Y rest in
      let a = formed_writ s end is_path 4 f.path at (Y ++ rest) p.0 e1 (omega arith) in
      let q = at + length X in
      let e2 : drop q s ≡ Y ++ rest = at-append s at X (Y ++ rest) e1 in
      let w = sized_writ (items f.items) q rest e2 in
      let wl = w.0 in
      let z : after_length s q ≡ at + length (X ++ Y) = omega arith in
      let i = items_writ s f.items depth_limit (after_length s q) (q + 2) c u rest p.1 mk w.1 (omega arith) hc hu in
      record {
        scans = rw (a.scans, length-scans end q (omega arith)) (i.scans ∙ rw z);
        gets = rw (a.gets, a.skips, i.gets);
        skips = rw a.skips z;
      }

  pub record FilesWrit (end at c u : ℕ) (l : List File) : Type 0 where
    pub scans : scan_files (length l) s end at c u ≡ Past (at + length (joined file l)) (c + file_items l) (u + file_uses l)
    pub gets : each (after_file s) (file_at s) (length l) at ≡ l

  files_writ : (l : List File) (end at c u : ℕ) (rest : List ℕ) → Every FormedFile l → MarkedFiles l at → drop at s ≡ joined file l ++ rest → at + length (joined file l) ≤ end
      → c + file_items l ≤ item_limit → u + file_uses l ≤ most_uses (version_of s) → FilesWrit end at c u l
  unfolding scan_files each joined Every MarkedFiles file_items file_uses
  files_writ [] end at c u rest p mk e h hc hu =
      let z : at ≡ at + 0 = omega arith in
      let c0 : c ≡ c + 0 = omega arith in
      let u0 : u ≡ u + 0 = omega arith in
      record { scans = rw (← z, ← c0, ← u0); gets = refl }
  files_writ (f ∷ l) end at c u rest p mk e h hc hu =
      let X = file f in
      let Y = joined file l in
      let len : length (X ++ Y) ≡ length X + length Y = length-append X Y in
      let e1 : drop at s ≡ X ++ (Y ++ rest) = e ∙ append_assoc X Y rest in
      let a = file_writ f end at c u (Y ++ rest) p.0 mk.0 e1 (omega arith) (omega arith) (omega arith) in
      let e2 : drop (at + length X) s ≡ Y ++ rest = at-append s at X (Y ++ rest) e1 in
      let b = files_writ l end (at + length X) (c + item_count f.items) (u + use_count f.items) rest p.1 mk.1 e2 (omega arith) (omega arith) (omega arith) in
      let z : at + length X + length Y ≡ at + length (X ++ Y) = omega arith in
      let zc : c + item_count f.items + file_items l ≡ c + (item_count f.items + file_items l) = omega arith in
      let zu : u + use_count f.items + file_uses l ≡ u + (use_count f.items + file_uses l) = omega arith in
      record {
        scans = rw a.scans (b.scans ∙ rw (z, zc, zu));
        gets = rw (a.gets, a.skips, b.gets);
      }

-- THE BUNDLE
pub record Complete (b : Bundle) : Type 0 where
  pub formed : form (encode b) ≡ Ok
  pub decoded : decode (encode b) ≡ b

module _ (s : List ℕ) (b : Bundle) (I : InForm b) (E : s ≡ encode b) where
  version-reads : version_of s ≡ b.version
  unfolding encode
  version-reads = (at_byte s 0 b.version (sized (fields b)) E).0

  at-version : (P : ℕ → Type 0) → P b.version → P (version_of s)
  at-version P p = subst P (sym version-reads) p

  header-scans : scan_header s ≡ Next header × (drop header s ≡ fields b ++ []) × (length s ≡ header + length (fields b))
  unfolding scan_header encode
  header-scans =
      let l : length s ≡ suc (length (sized (fields b))) = ap length E in
      let ls = sized-length s (fields b) in
      let a = at_byte s 0 b.version (sized (fields b)) E in
      let w = sized_writ s (fields b) 1 [] (a.1 ∙ sym (append-nil (sized (fields b)))) in
      let n = w.0 in
      let d : defined (version_of s) ≡ true = at-version (λ v. defined v ≡ true) I.version in
      let h1 : header ≤ length s = omega arith in
      let h2 : word s 1 ≤ length s - header = omega arith in
      let h3 : length s - header ≤ word s 1 = omega arith in
      (rw (le-ltb (length s) header h1, d, le-ltb (length s - header) (word s 1) h2, le-ltb (word s 1) (length s - header) h3), w.1, omega arith)

  all-scans : (form s ≡ Ok) × (decode s ≡ b)
  unfolding form lists files scan_list scan_field scan_end decode fields byte-list
  all-scans =
      let H = header-scans in
      let v = version_of s in
      let X1 = string b.root in
      let X2 = count-list (folder_width v) string b.folders in
      let X3 = byte-list remapping b.remappings in
      let X4 = count-list (file_width v) file b.files in
      let end = length s in
      let R : drop header s ≡ (X1 ++ (X2 ++ (X3 ++ X4))) ++ [] =
      at-version (λ n. drop header s ≡ (X1 ++ (count-list (folder_width n) string b.folders ++ (X3 ++ count-list (file_width n) file b.files))) ++ []) H.1 in
      let marks : MarkedFiles b.files (header + length X1 + length X2 + length X3 + width (file_width v)) =
      at-version (λ n. MarkedFiles b.files (header + length X1 + length (count-list (folder_width n) string b.folders) + length X3 + width (file_width n))) I.marks in
      let folders-few : length b.folders ≤ most_folders v = at-version (λ n. length b.folders ≤ most_folders n) I.folder_count_within in
      let files-few : length b.files ≤ most_files v = at-version (λ n. length b.files ≤ most_files n) I.file_count_within in
      let uses-few : file_uses b.files ≤ most_uses v = at-version (λ n. file_uses b.files ≤ most_uses n) I.use_count_within in
      let len : length (X1 ++ (X2 ++ (X3 ++ X4))) ≡ length X1 + (length X2 + (length X3 + length X4)) =
      length-append X1 (X2 ++ (X3 ++ X4)) ∙ ap (λ (n : ℕ). length X1 + n) (length-append X2 (X3 ++ X4) ∙ ap (λ (n : ℕ). length X2 + n) (length-append X3 X4)) in
      let le : length s ≡ header + length (X1 ++ (X2 ++ (X3 ++ X4))) =
      at-version (λ n. length s ≡ header + length (X1 ++ (count-list (folder_width n) string b.folders ++ (X3 ++ count-list (file_width n) file b.files)))) H.2 in
      let e0 : drop header s ≡ X1 ++ ((X2 ++ (X3 ++ X4)) ++ []) = R ∙ append_assoc X1 (X2 ++ (X3 ++ X4)) [] in
      let r = formed_writ s end is_path 4 b.root header ((X2 ++ (X3 ++ X4)) ++ []) I.root e0 (omega arith) in
      let p1 = header + length X1 in
      let e1 : drop p1 s ≡ X2 ++ ((X3 ++ X4) ++ []) = at-append s header X1 ((X2 ++ (X3 ++ X4)) ++ []) e0 ∙ append_assoc X2 (X3 ++ X4) [] in
      let f = count_writ s end (folder_width v) IsPath string (after s) (text s) (scan_path s end) (formed_writ s end is_path 4) 0 (most_folders v) b.folders p1 ((X3 ++ X4) ++ []) (omega arith) folders-few I.folders e1 (omega arith) in
      let p2 = p1 + length X2 in
      let e2 : drop p2 s ≡ X3 ++ (X4 ++ []) = at-append s p1 X2 ((X3 ++ X4) ++ []) e1 ∙ append_assoc X3 X4 [] in
      let m = count_writ s end Byte FormedRemapping remapping (after_remapping s) (remapping_at s) (scan_field RemappingField s end) (remapping_writ s end) 0 remapping_limit b.remappings p2 (X4 ++ []) (omega arith) I.remapping_count_within I.remappings e2 (omega arith) in
      let p3 = p2 + length X3 in
      let e3 : drop p3 s ≡ X4 ++ [] = at-append s p2 X3 (X4 ++ []) e2 in
      let g = count-byte s end (file_width v) file 1 (most_files v) b.files p3 [] I.some_file files-few e3 (omega arith) in
      let gl = g.3 in
      let k = files_writ s b.files end (past_count (file_width v) p3) 0 0 [] I.files marks g.1 (omega arith) (omega (arith, I.item_count_within)) (omega (arith, uses-few)) in
      let last : past_count (file_width v) p3 + length (joined file b.files) ≡ end = omega arith in (
        rw (H.0, r.scans, f.scans, m.scans, g.2, g.0, k.scans, last, eq-eqb end end refl),
        rw (r.gets, r.skips, f.gets, f.skips, m.gets, m.skips, g.0, k.gets, version-reads),
      )

pub form-complete : (b : Bundle) → InForm b → Complete b
form-complete b I = let a = all-scans (encode b) b I refl in record { formed = a.0; decoded = a.1 }
