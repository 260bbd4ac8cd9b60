-- The segments of a use, one after the other. Assumes nothing.
use Rattle.std.specs.Prelude.{ℕ, suc, ◌+◌, ◌-◌, ◌*◌, ◌≤◌, ◌<◌, ◌^◌, List, [], ◌∷◌, ◌≡◌, true, Result, Ok, Err, length}
use Rattle.std.proofs.Common.{arith, subst, sym}
use Rattle.std.specs.Result.{is_ok}
use Rattle.names.specs.Bytes.{false_true}
use Rattle.names.specs.Identifier.{is_identifier}
use Rattle.refusal.specs.declared.Refusal.{Refusal}
use Rattle.bundle.specs.Limits.{segment_limit, string_size}
use Rattle.bundle.specs.Scan.{text, scan_field, scan_list}
use Rattle.bundle.specs.Decode.{each, after}
use Rattle.bundle.specs.Encode.{string}
use Rattle.bundle.specs.Form.{Every, IsName}
use Rattle.bundle.specs.ListLaws.{each-length}
use Rattle.bundle.specs.Read.{Bytes}
use Rattle.bundle.specs.Steps.{read-then}
use Rattle.bundle.specs.Sound.{formed-read, count-read}
use Rattle.bundle.specs.declared.Field.TheVariants.{Name}
use Rattle.bundle.specs.declared.Width.TheVariants.{Byte}
use Rattle.bundle.specs.Results.{Next}
use Rattle.bundle.specs.Told.{scanned}
use Rattle.resolution.specs.declared.segments.Segments.TheInside.{Inside}
use Rattle.resolution.specs.Segments.{left_of, AreNames}
use Rattle.resolution.specs.Call.{scan_segments, segments}

-- segments that are handed in and in form are names
pub segments-named : (u : List ℕ) → Bytes u → (x : ℕ) → scan_segments u ≡ Next x → Every IsName (segments u)
unfolding scan_segments scan_list scan_field
segments-named u B x h =
    let m = read-then (scan_list Byte Name segment_limit u (length u) 0) h in
    (count-read u B (length u) (omega arith) Byte IsName string (after u) (text u) (scan_field Name u (length u)) (formed-read u B (length u) (omega arith) is_identifier 5) 0 segment_limit 0 m.mid m.first).every

-- and so where the scan of them goes on
pub scan-named : (u : List ℕ) → Bytes u → (r : Result ℕ Refusal) → scanned r ≡ scan_segments u → is_ok r ≡ true → Every IsName (segments u)
scan-named u B (Ok x) e h = segments-named u B x (sym e)
scan-named u B (Err x) e h = absurd (false_true h)

-- ONE AFTER THE OTHER
pub left-length : (a : Inside) → length (left_of a) ≡ a.count
left-length a = each-length (after a.bytes.now) (text a.bytes.now) a.count a.at

pub left_none : (a : Inside) → a.count ≡ 0 → left_of a ≡ []
unfolding each
left_none a z = rw z

-- after the first, the next of which stands at x
abbrev pub past_one : Inside → ℕ → Inside
past_one a x = record { bytes = a.bytes; at = x; count = a.count - 1 }

module _ (a : Inside) (some : a.count ≡ 0 → ⊥) (x : ℕ) (xq : x ≡ after a.bytes.now a.at) where
  pub left_more : left_of a ≡ text a.bytes.now a.at ∷ left_of (past_one a x)
  unfolding each
  left_more = rw xq (go a.count (a.count - 1) (omega arith))
    where
      go : (m k : ℕ) → m ≡ suc k → each (after a.bytes.now) (text a.bytes.now) m a.at ≡ text a.bytes.now a.at ∷ each (after a.bytes.now) (text a.bytes.now) k (after a.bytes.now a.at)
      go m k q = rw q

  module _ (n : AreNames a) where
    parts : IsName (text a.bytes.now a.at) × Every IsName (left_of (past_one a x))
    unfolding Every
    parts = subst (Every IsName) left_more n.names

    pub first-name : IsName (text a.bytes.now a.at)
    first-name = parts.0

    pub rest-names : x ≤ a.at + string_size → AreNames (past_one a x)
    rest-names h = record { names = parts.1; near = near a.count (a.count - 1) (omega arith) h n.near }
      where
        near : (m k : ℕ) → m ≡ k + 1 → x ≤ a.at + string_size → a.at + m * string_size < 2 ^ 62 → x + k * string_size < 2 ^ 62
        near m k q h l = omega arith
