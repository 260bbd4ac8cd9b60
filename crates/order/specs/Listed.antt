-- The files that a well-formed bundle lists: their paths are different and none is empty, so a path's place is the place where
-- it stands. Assumes nothing.
use Rattle.std.specs.Prelude.{ℕ, ◌+◌, ◌≤◌, ◌≡◌, refl, Bool, true, false, ltb, length, get_or}
use Rattle.std.proofs.Common.{arith, sym, ◌∙◌, length-append, get_or-append-add, ltb-true, ltb-false}
use mathlib.Core.List.Memᴰ
use mathlib.Core.List.{[], Memᴰ}
use Rattle.std.proofs.Math.ListN.{get_or-eq_default}
use Rattle.names.specs.Bytes.{false_true}
use Rattle.names.specs.Path.{is_path}
use Rattle.bundle.specs.Bundle.{Bundle}
use Rattle.bundle.specs.Form.{WellFormed}
use Rattle.bundle.specs.AcceptedTheorems.{accepted_implies}
use Rattle.resolution.specs.Call.{position}
use Rattle.discovery.specs.Discovery.{paths_of}
use Rattle.discovery.specs.Facts.{id-found}

module _ (b : Bundle) (w : WellFormed b) where
  not-empty : Memᴰ [] (paths_of b) → ⊥
  unfolding is_path
  not-empty m = false_true ((accepted_implies b w).paths [] (Memᴰ.append_right b.folders m))

  pub placed : (x : ℕ) → Memᴰ (get_or (paths_of b) x []) (paths_of b) → position (get_or (paths_of b) x []) (paths_of b) ≡ x
  placed x m = go (ltb x (length (paths_of b))) refl
    where
      go : (t : Bool) → ltb x (length (paths_of b)) ≡ t → position (get_or (paths_of b) x []) (paths_of b) ≡ x
      go true e =
          let p = position (get_or (paths_of b) x []) (paths_of b) in
          let n = length b.folders in
          let f = id-found (get_or (paths_of b) x []) (paths_of b) m in
          let l = length-append b.folders (paths_of b) in
          let h = ltb-true x (length (paths_of b)) e in
          let k = f.0 in
          let q = get_or-append-add b.folders (paths_of b) p [] ∙ (f.1 ∙ sym (get_or-append-add b.folders (paths_of b) x [])) in
          let i : n + p ≡ n + x = (accepted_implies b w).path_once (n + p) (n + x) (omega arith) (omega arith) q in
          omega arith
      go false e =
          let le : length (paths_of b) ≤ x = ltb-false x (length (paths_of b)) e in
          absurd (not-empty (Memᴰ.cast (sym (get_or-eq_default (paths_of b) [] le)) m))
