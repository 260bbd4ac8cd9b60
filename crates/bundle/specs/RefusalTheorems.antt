-- THE REFUSALS SAID A SECOND WAY, of any bytes and without the scan: where the place lies; 1 to 6 exactly where the bytes are
-- not in form; 7 to 13 exactly as the words of Refusals say, first and first; accepted exactly where there is none of these.
-- Assumes nothing.
use Rattle.std.specs.Prelude.{ℕ, ◌≤◌, ◌<◌, true, false, ◌≡◌, refl, ◌⊎◌, List, [], ◌∷◌, map, length}
use Rattle.std.proofs.Common.{arith, sym, ap, subst, ◌∙◌, inl, inr, le-ltb}
use Rattle.names.specs.Path.{root}
use Rattle.names.specs.Prefix.{parent}
use Rattle.bundle.specs.Bundle.{Bundle, File}
use Rattle.bundle.specs.Limits.{defined, header}
use Rattle.bundle.specs.Scan.{version_of, scan_header}
use Rattle.bundle.specs.SoundBundle.{form-parts, both-pass}
use Rattle.bundle.specs.Decode.{after, decode, folder_count, folder_first, file_count, file_first}
use Rattle.bundle.specs.Conflicts.{texts, or_else, listed, remapped, conflicts, folders, files, remappings, all_folders}
use Rattle.bundle.specs.Read.{Bytes, form, verdict, refused, read}
use Rattle.bundle.specs.ListLaws.{texts-each}
use Rattle.bundle.specs.Free.{paths-each}
use Rattle.bundle.specs.Answers.{both_ok, refused-told}
use Rattle.bundle.specs.Numbers.{Undefined, RightForm, form-right}
use Rattle.bundle.specs.Refusals.{BytesInForm, IsFolder, paths, path_at, as_root, as_earlier, remapping_of, Refusal, twice, orphan, bad_context, bad_target, reserved, odd_name, same_remapping_case, bad_root, Twice, Orphan, Faultless}
use Rattle.bundle.specs.RefusalLaws.{or-told, located_in, located-all, name_in, name_11, name_12}
use Rattle.bundle.specs.Results.{Checked}
use Rattle.bundle.specs.Results.{Ok, Refused}
use Rattle.bundle.specs.RefusalProofs.{in_form-only, in_form-all, decoded, formed-value, early, late, path_7, path_8, repeats_all, test-is, paths-ok-only, paths-ok-all, remappings-ok-only, remappings-ok-all, path-told, remapping-told, root_told, root_misplaced, root_ok, root_in, conflict_refused, refusal-inside, seven, eight}

-- 1 TO 6 exactly where the bytes are not in form
pub record Unformed (s : List ℕ) : Type 0 where
  pub only : (n p : ℕ) → n ≤ 6 → verdict s ≡ Refused n p → BytesInForm s → ⊥
  pub all : (BytesInForm s → ⊥) → (n : ℕ) × ((p : ℕ) × (((1 ≤ n) × (n ≤ 6)) × (verdict s ≡ Refused n p)))

pub unformed : (s : List ℕ) → Bytes s → Unformed s
unfolding verdict
unformed s B = record { only = only; all = λ f. go (form s) refl f }
  where
    only : (n p : ℕ) → n ≤ 6 → or_else (form s) (conflicts s) ≡ Refused n p → BytesInForm s → ⊥
    only n p h e f =
        let c : conflicts s ≡ Refused n p = rw (in_form-all s f) at e in
        let l = late s n p c in
        omega arith

    go : (c : Checked) → form s ≡ c → (BytesInForm s → ⊥) → (n : ℕ) × ((p : ℕ) × (((1 ≤ n) × (n ≤ 6)) × (or_else (form s) (conflicts s) ≡ Refused n p)))
    go Ok e f = absurd (f (in_form-only s B e))
    go (Refused n p) e f = (n, (p, (early s n p e, rw e)))

-- 2 EXACTLY WHERE THE VERSION IS NOT DEFINED, whatever follows the header; an accepted bundle's is defined
pub version-only : (s : List ℕ) (p : ℕ) → verdict s ≡ Refused 2 p → Undefined s p
unfolding verdict
version-only s p e = go (or-told (form s) (conflicts s) e)
  where
    go : (form s ≡ Refused 2 p) ⊎ ((form s ≡ Ok) × (conflicts s ≡ Refused 2 p)) → Undefined s p
    go (inl e) = let t : RightForm s (Refused 2 p) = subst (RightForm s) e (form-right s) in t.version refl
    go (inr e) = let l = late s 2 p e.1 in absurd (omega arith)

pub undefined-refused : (s : List ℕ) → header ≤ length s → defined (version_of s) ≡ false → verdict s ≡ Refused 2 0
unfolding verdict form scan_header
undefined-refused s h e = rw (le-ltb (length s) header h, e)

pub accepted-defined : (s : List ℕ) → verdict s ≡ Ok → defined (version_of s) ≡ true
accepted-defined s e = (form-parts s (both-pass s e).0).headed.is_defined

-- 7 TO 13: a verdict from 7 on is one of the refusals, at the first path or remapping that is not good
pub refusal-only : (s : List ℕ) → Bytes s → (n p : ℕ) → 7 ≤ n → verdict s ≡ Refused n p → Refusal s n p
unfolding verdict
refusal-only s B n p h e = go (or-told (form s) (conflicts s) e)
  where
    go : (form s ≡ Refused n p) ⊎ ((form s ≡ Ok) × (conflicts s ≡ Refused n p)) → Refusal s n p
    go (inl e) = let x = early s n p e in absurd (omega arith)
    go (inr e) = conflict_refused s n p (in_form-only s B e.0) e.1

-- and each of these is the verdict
pub refusal-all : (s : List ℕ) {n p : ℕ} → Refusal s n p → verdict s ≡ Refused n p
refusal-all s (twice i F l) = path-told s i F (path_7 s (formed-value s F.formed) i F.within l)
refusal-all s (orphan i F l k) = path-told s i F (path_8 s (formed-value s F.formed) i F.within l k)
refusal-all s (bad_context i F m) = remapping-told s i F (test-is s i ∙ rw (located-all s (remapping_of s i).context m))
refusal-all s (bad_target i F c m) =
    remapping-told s i F (test-is s i ∙ rw (located_in s (remapping_of s i).context c, located-all s (remapping_of s i).target m))
refusal-all s (reserved i F c t r) =
    remapping-told s i F (test-is s i ∙ rw (located_in s (remapping_of s i).context c, located_in s (remapping_of s i).target t, name_11 (remapping_of s i).name r))
refusal-all s (odd_name i F c t r o) =
    remapping-told s i F (test-is s i ∙ rw (located_in s (remapping_of s i).context c, located_in s (remapping_of s i).target t, name_12 (remapping_of s i).name r o))
refusal-all s (same_remapping_case i F c t r o k) =
    remapping-told s i F
    (test-is s i ∙ rw (located_in s (remapping_of s i).context c, located_in s (remapping_of s i).target t, name_in (remapping_of s i).name r o) (repeats_all s i F.within k))
refusal-all s (bad_root f g k m) = root_told s f g k (root_misplaced s m)

-- THE PLACE lies within the bytes, and before their end for every number but 1
pub place-within : (s : List ℕ) → Bytes s → (n p : ℕ) → verdict s ≡ Refused n p → (p ≤ length s) × ((n ≡ 1 → ⊥) → p < length s)
unfolding verdict
place-within s B n p e = go (or-told (form s) (conflicts s) e)
  where
    go : (form s ≡ Refused n p) ⊎ ((form s ≡ Ok) × (conflicts s ≡ Refused n p)) → (p ≤ length s) × ((n ≡ 1 → ⊥) → p < length s)
    go (inl e) = let t : RightForm s (Refused n p) = subst (RightForm s) e (form-right s) in (t.within, t.inside)
    go (inr e) = let l = refusal-inside s (conflict_refused s n p (in_form-only s B e.0) e.1) in (omega arith, λ f. l)

-- ACCEPTED exactly where there is none of these
pub accepted-only : (s : List ℕ) → Bytes s → verdict s ≡ Ok → Faultless s
unfolding verdict conflicts
accepted-only s B e =
    let a = both_ok (form s) _ e in
    let f = in_form-only s B a.0 in
    let b = both_ok (listed (root ∷ []) (all_folders s) (paths s)) _ a.1 in
    let c = both_ok (remapped (all_folders s) (texts (files s)) [] (remappings s)) _ b.1 in
    record { formed = f; all_paths = paths-ok-only s (formed-value s f) b.0; all_remappings = remappings-ok-only s c.0; root_folder = root_ok s c.1 }

pub accepted_all : (s : List ℕ) → Faultless s → verdict s ≡ Ok
unfolding verdict conflicts
accepted_all s f =
    rw (in_form-all s f.formed, paths-ok-all s (formed-value s f.formed) f.all_paths, remappings-ok-all s f.all_remappings) (root_in s f.root_folder)

-- bytes in form that none of 7 to 13 refuses
pub none-refused : (s : List ℕ) → BytesInForm s → ((n p : ℕ) → Refusal s n p → ⊥) → verdict s ≡ Ok
unfolding verdict
none-refused s f k = rw (in_form-all s f) (go (conflicts s) refl)
  where
    go : (c : Checked) → conflicts s ≡ c → c ≡ Ok
    go Ok e = refl
    go (Refused n p) e = absurd (k n p (conflict_refused s n p f e))

-- OF AN ACCEPTED BUNDLE: every parent is `/` or a listed folder, every two listed paths differ, and none is `/`
pub record Tidy (s : List ℕ) : Type 0 where
  pub parents : (i : ℕ) → i < length (paths s) → IsFolder s (parent (path_at s i).string)
  pub differ : (i j : ℕ) → i < j → j < length (paths s) → (path_at s i).string ≡ (path_at s j).string → ⊥
  pub no_root : (i : ℕ) → i < length (paths s) → (path_at s i).string ≡ root → ⊥

pub tidy : (s : List ℕ) → Bytes s → verdict s ≡ Ok → Tidy s
tidy s B e =
    let g = (accepted-only s B e).all_paths in
    record {
      parents = λ i h. (g i h).in_folder;
      differ = λ i j b h q. (g j h).new (as_earlier i b (sym q));
      no_root = λ i h q. (g i h).new (as_root q);
    }

-- WHAT IS READ is refused with what the verdict tells
pub read_only : (s : List ℕ) (n p : ℕ) → read s ≡ refused n p → verdict s ≡ Refused n p
unfolding read
read_only s n p h = refused-told (verdict s) (decode s) n p h

-- the paths that the bytes list are those of the bundle that they are
folders-are : (s : List ℕ) → texts (folders s) ≡ (decode s).folders
unfolding decode
folders-are s = texts-each s (after s) (folder_count s) (folder_first s)

files_are : (s : List ℕ) → texts (files s) ≡ map (λ (g : File). g.path) (decode s).files
unfolding decode
files_are s = paths-each s (file_count s) (file_first s)

pub listed-are : (s : List ℕ) (f : BytesInForm s) → (texts (folders s) ≡ f.bundle.folders) × (texts (files s) ≡ map (λ (g : File). g.path) f.bundle.files)
listed-are s f = (folders-are s ∙ ap (λ (b : Bundle). b.folders) (decoded s f), files_are s ∙ ap (λ (b : Bundle). map (λ (g : File). g.path) b.files) (decoded s f))

-- 7 ALONE, AND 8 ALONE
pub twice-only : (s : List ℕ) → Bytes s → (p : ℕ) → verdict s ≡ Refused 7 p → Twice s p
twice-only s B p e = seven (refusal-only s B 7 p (omega arith) e) refl

pub twice-all : (s : List ℕ) (p : ℕ) → Twice s p → verdict s ≡ Refused 7 p
twice-all s p t = refusal-all s (twice t.0 t.1.0 t.1.1) ∙ ap (Refused 7) t.1.2

pub orphan-only : (s : List ℕ) → Bytes s → (p : ℕ) → verdict s ≡ Refused 8 p → Orphan s p
orphan-only s B p e = eight (refusal-only s B 8 p (omega arith) e) refl

pub orphan-all : (s : List ℕ) (p : ℕ) → Orphan s p → verdict s ≡ Refused 8 p
orphan-all s p t = refusal-all s (orphan t.0 t.1.0 t.1.1 t.1.2) ∙ ap (Refused 8) t.1.3
