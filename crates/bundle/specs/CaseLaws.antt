-- How rows write a named item, and laws for rows of many items, that would take long to compute byte by byte: equal items
-- are walked one by one. Assumes nothing.
use Prim.Native.Nat.{ℕ, zero, suc, ◌+◌, ◌*◌, ◌≤◌, ◌<◌}
use native.Mathlib.Omega.{arith}
use Rattle.std.specs.Prelude.{◌≡◌, drop}
use Rattle.std.proofs.Math.Path.{refl, sym}
use Rattle.std.proofs.Common.{◌∙◌, eq-eqb, ne_eqb}
use mathlib.Core.List.{List, [], ◌∷◌, ◌++◌, append_assoc}
use Rattle.std.proofs.Math.ListN.{length}
use Rattle.bundle.specs.Bundle.{Text, Items, named}
use Rattle.bundle.specs.Limits.{item_limit, use_limit, use_kind, module_kind, ignored_kind}
use Rattle.bundle.specs.Encode.{string, joined, sized, element}
use Rattle.bundle.specs.Encode.{counted as count-list}
use Rattle.bundle.specs.Scan.{byte, uses_after, scan_item, scan_items}
use Rattle.bundle.specs.Form.{Every}
use Rattle.bundle.specs.Parts.{headed}
use Rattle.bundle.specs.Walks.{goes, siblings-next, leaf_past}
use Rattle.bundle.specs.CompleteItems.{head_writ, head-scans, leaf_scans, use_body, ignored-body, use_scans}
use Rattle.bundle.specs.Results.{Past}

-- a named item: kind, mark, visibility, name
abbrev pub item : ℕ → ℕ → ℕ → Text → Items → Items
item k m v name rest = named (headed k m v name) rest

-- n times the bytes x
unfoldable pub many : List ℕ → ℕ → List ℕ
many x zero = []
many x (suc n) = x ++ many x n

-- an ignored item, and a use without segments and elements
abbrev pub ignored_item : List ℕ
ignored_item = sized (ignored_kind ∷ 0 ∷ [])

abbrev pub use_item : List ℕ
use_item = sized (use_kind ∷ 0 ∷ (count-list string [] ++ count-list element []))

module _ (s : List ℕ) (depth end : ℕ) where
  one-ignored : (at c u : ℕ) (rest : List ℕ) → drop at s ≡ ignored_item ++ rest → at + 4 ≤ end → c < item_limit → u ≤ use_limit
      → (scan_item depth s end at c u ≡ Past (at + 4) (c + 1) u) × (drop (at + 4) s ≡ rest)
  one-ignored at c u rest e h hc hu =
      let w = head_writ s ignored_kind 0 [] at rest e in
      let kb = w.kind in
      let n5 : byte s (at + 2) ≡ module_kind → ⊥ = λ (q : byte s (at + 2) ≡ module_kind). omega arith in
      let n3 : byte s (at + 2) ≡ use_kind → ⊥ = λ (q : byte s (at + 2) ≡ use_kind). omega arith in
      let ua : uses_after s at u ≡ u = rw (ne_eqb (byte s (at + 2)) use_kind n3) in
      let n = at + 4 + 0 in
      let z : n ≡ at + 4 = omega arith in
      let hd = head-scans s ignored_kind 0 [] end at n c u rest w (omega arith) (omega arith) (omega arith) (omega arith) hc (rw ua hu) in
      let body = ignored-body s n at kb (omega arith) in
      let one : scan_item depth s end at c u ≡ Past n (c + 1) u = sym (leaf_past depth s end at c u n hd n n5 (leaf_scans s n at body)) ∙ rw ua in
      (rw z at one, rw z at w.after_it)

  one_use : (at c u : ℕ) (rest : List ℕ) → drop at s ≡ use_item ++ rest → at + 6 ≤ end → c < item_limit → u < use_limit
      → (scan_item depth s end at c u ≡ Past (at + 6) (c + 1) (u + 1)) × (drop (at + 6) s ≡ rest)
  unfolding count-list joined Every
  one_use at c u rest e h hc hu =
      let X = count-list string [] ++ count-list element [] in
      let w = head_writ s use_kind 0 X at rest e in
      let kb = w.kind in
      let n5 : byte s (at + 2) ≡ module_kind → ⊥ = λ (q : byte s (at + 2) ≡ module_kind). omega arith in
      let ua : uses_after s at u ≡ u + 1 = rw (eq-eqb (byte s (at + 2)) use_kind kb) in
      let n = at + 4 + length X in
      let z : n ≡ at + 6 = omega arith in
      let hd = head-scans s use_kind 0 X end at n c u rest w (omega arith) (omega arith) (omega arith) (omega arith) hc (rw ua (omega arith)) in
      let t = use_scans s n (at + 4) [] [] rest (omega arith) tt (omega arith) tt w.body refl in
      let one : scan_item depth s end at c u ≡ Past n (c + 1) (u + 1) = sym (leaf_past depth s end at c u n hd n n5 (leaf_scans s n at (use_body s n at kb t.0))) ∙ rw ua in
      (rw z at one, rw z at w.after_it)

  pub many-ignored : (n at c u : ℕ) (rest : List ℕ) → drop at s ≡ many ignored_item n ++ rest → at + 4 * n ≤ end → c + n ≤ item_limit → u ≤ use_limit
      → scan_items depth s end at c u ≡ scan_items depth s end (at + 4 * n) (c + n) u
  unfolding many
  many-ignored zero at c u rest e h hc hu =
      let za : at + 4 * 0 ≡ at = omega arith in
      let zc : c + 0 ≡ c = omega arith in
      rw (za, zc)
  many-ignored (suc n) at c u rest e h hc hu =
      let o = one-ignored at c u (many ignored_item n ++ rest) (e ∙ append_assoc ignored_item (many ignored_item n) rest) (omega arith) (omega arith) hu in
      let za : at + 4 + 4 * n ≡ at + 4 * suc n = omega arith in
      let zc : c + 1 + n ≡ c + suc n = omega arith in
      siblings-next (scan_item depth s end) end (goes depth s end) at c u (at + 4) (c + 1) u (omega arith) o.0
      ∙ (many-ignored n (at + 4) (c + 1) u rest o.1 (omega arith) (omega arith) hu ∙ rw (za, zc))

  pub many-uses : (n at c u : ℕ) (rest : List ℕ) → drop at s ≡ many use_item n ++ rest → at + 6 * n ≤ end → c + n ≤ item_limit → u + n ≤ use_limit
      → scan_items depth s end at c u ≡ scan_items depth s end (at + 6 * n) (c + n) (u + n)
  unfolding many
  many-uses zero at c u rest e h hc hu =
      let za : at + 6 * 0 ≡ at = omega arith in
      let zc : c + 0 ≡ c = omega arith in
      let zu : u + 0 ≡ u = omega arith in
      rw (za, zc, zu)
  many-uses (suc n) at c u rest e h hc hu =
      let o = one_use at c u (many use_item n ++ rest) (e ∙ append_assoc use_item (many use_item n) rest) (omega arith) (omega arith) (omega arith) in
      let za : at + 6 + 6 * n ≡ at + 6 * suc n = omega arith in
      let zc : c + 1 + n ≡ c + suc n = omega arith in
      let zu : u + 1 + n ≡ u + suc n = omega arith in
      siblings-next (scan_item depth s end) end (goes depth s end) at c u (at + 6) (c + 1) (u + 1) (omega arith) o.0
      ∙ (many-uses n (at + 6) (c + 1) (u + 1) rest o.1 (omega arith) (omega arith) (omega arith) ∙ rw (za, zc, zu))
