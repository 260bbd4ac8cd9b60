-- Laws of the scans: what a field that was read passed, and where it ends.
-- Assumes nothing.
use Prim.Native.Nat.{ℕ, suc, ◌+◌, ◌-◌, ◌≤◌, ◌<◌}
use native.Mathlib.Omega.{arith}
use Rattle.std.specs.Prelude.{Bool, true, false, cond, ◌&&◌, ◌≡◌, refl, List, length, take, drop, eqb, ltb}
use Rattle.std.proofs.Math.Path.{sym}
use Rattle.std.proofs.Common.{◌∙◌, length-drop, take_all}
use Rattle.std.proofs.Math.Dec.{leb}
use borrow.Author.Tests.{ltb-true, leb-true, eqb-true, le-leb, lt-leb}
use Rattle.bundle.specs.Limits.{width, item_limit, most_uses}
use Rattle.bundle.specs.Scan.{byte, word, text, version_of, count, past_count, and_then, times, scan_string, scan_formed, scan_count, scan_list, scan_length, scan_mark, uses_after, scan_head, scan_end, walk_on, walk_then}
use Rattle.bundle.specs.declared.Width.{Width}
use Rattle.bundle.specs.declared.Width.TheVariants.{Byte, Word}
use Rattle.bundle.specs.declared.Field.{Field}
use Rattle.bundle.specs.Results.{Scan}
use Rattle.bundle.specs.Results.{Next, Bad}
use Rattle.bundle.specs.Results.{Walk}
use Rattle.bundle.specs.Results.{Past, Fault}

-- STRINGS
pub text-cut : (s : List ℕ) (at n : ℕ) → n ≡ byte s at → length s - (at + 1) < n → take (length s - (at + 1)) (drop (at + 1) s) ≡ text s at
text-cut s at n e h =
    take_all (length s - (at + 1)) (drop (at + 1) s) (simp length-drop (omega arith))
    ∙ sym (take_all (byte s at) (drop (at + 1) s) (simp length-drop (omega arith)))

pub text-whole : (s : List ℕ) (at n : ℕ) → n ≡ byte s at → take (at + 1 + n - (at + 1)) (drop (at + 1) s) ≡ text s at
text-whole s at n e = let z : at + 1 + n - (at + 1) ≡ byte s at = omega arith in rw z

-- WHAT WAS READ
bad-next : {n p m : ℕ} → Bad n p ≡ Next m → ⊥
bad-next e = let z : ◌≡◌ {A = ℕ} 0 1 = cc in omega arith

fault_past : {n p a c u : ℕ} → Fault n p ≡ Past a c u → ⊥
fault_past e = let z : ◌≡◌ {A = ℕ} 0 1 = cc in omega arith

next_inj : {m n : ℕ} → Next m ≡ Next n → m ≡ n
next_inj e = cc

-- a test that was passed
pub passed : (b : Bool) (x : Scan) (k p : ℕ) {n : ℕ} → cond b x (Bad k p) ≡ Next n → (b ≡ true) × (x ≡ Next n)
passed true x k p h = (refl, h)
passed false x k p h = absurd (bad-next h)

pub both : (a b : Bool) → (a && b) ≡ true → (a ≡ true) × (b ≡ true)
both true b h = (refl, h)
both false b h = absurd (no h)
  where
    no : ◌≡◌ {A = Bool} false true → ⊥
    no e = let z : ◌≡◌ {A = ℕ} 0 1 = cc in omega arith

-- a field and what follows it
pub record Mid (X : Scan) (f : ℕ → Scan) (n : ℕ) : Type 0 where
  pub mid : ℕ
  pub first : X ≡ Next mid
  pub second : f mid ≡ Next n

pub read-then : (X : Scan) {f : ℕ → Scan} {n : ℕ} → and_then X f ≡ Next n → Mid X f n
read-then (Next m) h = record { mid = m; first = refl; second = h }
read-then (Bad k p) h = absurd (bad-next h)

pub record MidWalk (X : Scan) (f : ℕ → Walk) (a c u : ℕ) : Type 0 where
  pub mid : ℕ
  pub first : X ≡ Next mid
  pub second : f mid ≡ Past a c u

pub walked_on : (X : Scan) {f : ℕ → Walk} {a c u : ℕ} → walk_on X f ≡ Past a c u → MidWalk X f a c u
walked_on (Next m) h = record { mid = m; first = refl; second = h }
walked_on (Bad k p) h = absurd (fault_past h)

pub record MidPast (X : Walk) (f : ℕ → ℕ → ℕ → Walk) (a c u : ℕ) : Type 0 where
  pub at : ℕ
  pub count : ℕ
  pub uses : ℕ
  pub first : X ≡ Past at count uses
  pub second : f at count uses ≡ Past a c u

pub walked_then : (X : Walk) {f : ℕ → ℕ → ℕ → Walk} {a c u : ℕ} → walk_then X f ≡ Past a c u → MidPast X f a c u
walked_then (Past x y z) h = record { at = x; count = y; uses = z; first = refl; second = h }
walked_then (Fault k p) h = absurd (fault_past h)

-- WHERE A FIELD ENDS
module _ (s : List ℕ) (end at : ℕ) {n : ℕ} where
  pub string-next : scan_string s end at ≡ Next n → (at < end) × (n ≡ at + 1 + byte s at) × (n ≤ end)
  unfolding scan_string
  string-next h =
      let a = passed (ltb at end) _ _ _ h in
      let b = passed (leb (byte s at) (end - (at + 1))) _ _ _ a.1 in
      let l : at < end = ltb-true _ _ a.0 in
      let m : byte s at ≤ end - (at + 1) = leb-true _ _ b.0 in
      let e : at + 1 + byte s at ≡ n = next_inj b.1 in
      (l, sym e, omega arith)

  pub formed-next : (form : List ℕ → Bool) (k : ℕ) → scan_formed form k s end at ≡ Next n → (scan_string s end at ≡ Next n) × (form (text s at) ≡ true)
  unfolding scan_formed
  formed-next form k h =
      let m = read-then (scan_string s end at) h in
      let p = passed (form (text s at)) _ _ _ m.second in
      (m.first ∙ p.1, p.0)

  pub length-next : scan_length s end at ≡ Next n → (n ≡ at + 2 + word s at) × (n ≤ end)
  unfolding scan_length
  length-next h =
      let a = passed (leb (at + 2) end) _ _ _ h in
      let b = passed (leb (word s at) (end - (at + 2))) _ _ _ a.1 in
      let l : at + 2 ≤ end = leb-true _ _ a.0 in
      let m : word s at ≤ end - (at + 2) = leb-true _ _ b.0 in
      let e : at + 2 + word s at ≡ n = next_inj b.1 in
      (sym e, omega arith)

  pub mark-next : (low high : ℕ) → scan_mark low high s end at ≡ Next n → (n ≡ at + 1) × (n ≤ end) × (low ≤ byte s at) × (byte s at ≤ high)
  unfolding scan_mark
  mark-next low high h =
      let a = passed (ltb at end) _ _ _ h in
      let b = passed (leb low (byte s at) && leb (byte s at) high) _ _ _ a.1 in
      let t = both (leb low (byte s at)) _ b.0 in
      let l : at < end = ltb-true _ _ a.0 in
      let e : at + 1 ≡ n = next_inj b.1 in
      (sym e, omega arith, leb-true _ _ t.0, leb-true _ _ t.1)

  pub count_next : (w : Width) (low high : ℕ) → scan_count w low high s end at ≡ Next n → (n ≡ past_count w at) × (n ≤ end) × (low ≤ count w s at) × (count w s at ≤ high)
  unfolding scan_count
  count_next w low high h =
      let a = passed (leb (past_count w at) end) _ _ _ h in
      let b = passed (leb low (count w s at) && leb (count w s at) high) _ _ _ a.1 in
      let t = both (leb low (count w s at)) _ b.0 in
      let l : past_count w at ≤ end = leb-true _ _ a.0 in
      let e : past_count w at ≡ n = next_inj b.1 in
      (sym e, omega arith, leb-true _ _ t.0, leb-true _ _ t.1)

  pub end-next : scan_end end at ≡ Next n → (at ≡ end) × (n ≡ at)
  unfolding scan_end
  end-next h = let a = passed (eqb at end) _ _ _ h in (eqb-true _ _ a.0, sym (next_inj a.1))

-- a count takes some bytes
pub some_bytes : (w : Width) → 0 < width w
some_bytes Byte = omega arith
some_bytes Word = omega arith

-- EACH WAY THROUGH A COUNT
module _ (s : List ℕ) (end at : ℕ) (w : Width) (low high : ℕ) where
  pub count_cut : end < past_count w at → scan_count w low high s end at ≡ Bad 1 at
  unfolding scan_count
  count_cut h = rw (lt-leb (past_count w at) end h)

  pub count-few : past_count w at ≤ end → count w s at < low → scan_count w low high s end at ≡ Bad 3 at
  unfolding scan_count
  count-few h k = rw (le-leb (past_count w at) end h, lt-leb low (count w s at) k)

  pub count-many : past_count w at ≤ end → low ≤ count w s at → high < count w s at → scan_count w low high s end at ≡ Bad 3 at
  unfolding scan_count
  count-many h l k = rw (le-leb (past_count w at) end h, le-leb low (count w s at) l, lt-leb (count w s at) high k)

  pub count-passed : past_count w at ≤ end → low ≤ count w s at → count w s at ≤ high → scan_count w low high s end at ≡ Next (past_count w at)
  unfolding scan_count
  count-passed h l k = rw (le-leb (past_count w at) end h, le-leb low (count w s at) l, le-leb (count w s at) high k)

-- a width and a limit that are equal to others
pub count_same : (low : ℕ) (s : List ℕ) (end at : ℕ) {w v : Width} {m n : ℕ} → w ≡ v → m ≡ n → scan_count w low m s end at ≡ scan_count v low n s end at
count_same low s end at e f = rw (e, f)

pub list_same : (field : Field) (s : List ℕ) (end at : ℕ) {w v : Width} {m n : ℕ} → w ≡ v → m ≡ n → scan_list w field m s end at ≡ scan_list v field n s end at
list_same field s end at e f = rw (e, f)

-- an item's head that was read: its end is n
pub record Head (s : List ℕ) (end at count uses n : ℕ) : Type 0 where
  pub ends : n ≡ at + 2 + word s at
  pub long : at + 4 ≤ n
  pub within : n ≤ end
  pub kind_low : 1 ≤ byte s (at + 2)
  pub kind_high : byte s (at + 2) ≤ 6
  pub visibility : byte s (at + 3) ≤ 1
  pub count_small : count < item_limit
  pub uses_small : uses_after s at uses ≤ most_uses (version_of s)

pub head-next : (s : List ℕ) (end at count uses : ℕ) {n : ℕ} → scan_head s end at count uses ≡ Next n → Head s end at count uses n
unfolding scan_head
head-next s end at count uses {n = n} h =
    let a = read-then (scan_length s end at) h in
    let la = length-next s end at a.first in
    let b = read-then (scan_mark 1 6 s a.mid (at + 2)) a.second in
    let lb = mark-next s a.mid (at + 2) 1 6 b.first in
    let d = read-then (scan_mark 0 1 s a.mid b.mid) b.second in
    let z : at + 3 ≡ b.mid = omega arith in
    let ld = mark-next s a.mid b.mid 0 1 d.first in
    let t = passed (ltb count item_limit && leb (uses_after s at uses) (most_uses (version_of s))) _ _ _ d.second in
    let u = both (ltb count item_limit) _ t.0 in
    let e : a.mid ≡ n = next_inj t.1 in
    let v : byte s (at + 3) ≤ 1 = rw z ld.3 in
    record {
      ends = omega arith;
      long = omega arith;
      within = omega arith;
      kind_low = lb.2;
      kind_high = lb.3;
      visibility = v;
      count_small = ltb-true _ _ u.0;
      uses_small = leb-true _ _ u.1;
    }

-- A LOOP OVER n FIELDS, i of which are done
module _ (f : ℕ → Scan) (n i a : ℕ) where
  pub times-next : (x : ℕ) → i < n → f a ≡ Next x → times (n - i) f a ≡ times (n - (i + 1)) f x
  unfolding times
  times-next x h e = let z : n - i ≡ suc (n - (i + 1)) = omega arith in rw (z, e)

  pub times-bad : (k p : ℕ) → i < n → f a ≡ Bad k p → times (n - i) f a ≡ Bad k p
  unfolding times
  times-bad k p h e = let z : n - i ≡ suc (n - (i + 1)) = omega arith in rw (z, e)

  pub times-done : n ≤ i → times (n - i) f a ≡ Next a
  unfolding times
  times-done h = let z : n - i ≡ 0 = omega arith in rw z
