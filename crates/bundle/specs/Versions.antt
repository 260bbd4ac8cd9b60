-- Laws of what a version sets: the plain limits and bounds are those of every version. Assumes nothing.
use Rattle.std.specs.Prelude.{ℕ, ◌≤◌}
use Rattle.std.proofs.Common.{arith}
use Rattle.bundle.specs.Limits.{capacity, count_limit, folder_width, file_width, folder_limit, file_limit, use_limit, most_folders, most_files, most_uses}

module _ (v : ℕ) where
  pub folders-within : most_folders v ≤ folder_limit
  folders-within = omega arith

  pub files-within : most_files v ≤ file_limit
  files-within = omega arith

  pub uses-within : most_uses v ≤ use_limit
  uses-within = omega arith

  pub folder_count_limit : capacity (folder_width v) ≤ count_limit
  folder_count_limit = omega arith

  pub file_count_limit : capacity (file_width v) ≤ count_limit
  file_count_limit = omega arith
