-- How a verdict and a resolution are told in numbers. Assumes nothing.
use Rattle.std.specs.Prelude.{ℕ, ◌≡◌, refl}
use Rattle.std.proofs.Common.{sym, ◌∙◌}
use Rattle.bundle.specs.Read.{number_of}
use Rattle.bundle.specs.Results.{Checked}
use Rattle.bundle.specs.Results.{Ok, Refused}
use Rattle.resolution.specs.Results.{Resolution}
use Rattle.resolution.specs.Results.{File, Folder, Refused as Refused'}

-- the place of a refusal; where there is none, the number lent for it stays
abbrev pub place_told : Checked → ℕ → ℕ
place_told Ok a = a
place_told (Refused n p) a = p

-- a resolution's kind: 0 a file, 255 a folder, else the number of a refusal
abbrev pub kind_of : Resolution → ℕ
kind_of (File i left) = 0
kind_of (Folder i left) = 255
kind_of (Refused' n p) = n

-- which file or folder, how many segments are left, and the place of a refusal; the number lent for what there is not stays
abbrev pub index_told : Resolution → ℕ → ℕ
index_told (File i left) a = i
index_told (Folder i left) a = i
index_told (Refused' n p) a = a

abbrev pub left_told : Resolution → ℕ → ℕ
left_told (File i left) a = left
left_told (Folder i left) a = left
left_told (Refused' n p) a = a

abbrev pub fault_told : Resolution → ℕ → ℕ
fault_told (File i left) a = a
fault_told (Folder i left) a = a
fault_told (Refused' n p) a = p

-- AS THE CODE HAS IT
module _ (v w : Checked) (a : ℕ) (same : w ≡ v) where
  pub told-ok : w ≡ Ok → (0 ≡ number_of v) × (a ≡ place_told v a)
  unfolding number_of
  told-ok e = rw (sym same ∙ e) (refl, refl)

  pub told-refused : (n p : ℕ) → w ≡ Refused n p → (n ≡ number_of v) × (p ≡ place_told v a)
  unfolding number_of
  told-refused n p e = rw (sym same ∙ e) (refl, refl)

module _ (v w : Resolution) (a b c : ℕ) (same : w ≡ v) where
  pub told-file : (i left : ℕ) → w ≡ File i left → (0 ≡ kind_of v) × ((i ≡ index_told v a) × ((left ≡ left_told v b) × (c ≡ fault_told v c)))
  told-file i left e = rw (sym same ∙ e) (refl, (refl, (refl, refl)))

  pub told-folder : (i left : ℕ) → w ≡ Folder i left → (255 ≡ kind_of v) × ((i ≡ index_told v a) × ((left ≡ left_told v b) × (c ≡ fault_told v c)))
  told-folder i left e = rw (sym same ∙ e) (refl, (refl, (refl, refl)))

  pub told-fault : (n p : ℕ) → w ≡ Refused' n p → (n ≡ kind_of v) × ((a ≡ index_told v a) × ((b ≡ left_told v b) × (p ≡ fault_told v c)))
  told-fault n p e = rw (sym same ∙ e) (refl, (refl, (refl, refl)))
