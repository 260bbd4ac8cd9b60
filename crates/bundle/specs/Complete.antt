-- What the encoder writes of a field in form is read, and gives the field back. Assumes nothing.
use Prim.Native.Nat.{ℕ, suc, ◌+◌, ◌-◌, ◌≤◌, ◌<◌}
use native.Mathlib.Omega.{arith}
use Rattle.std.specs.Prelude.{Bool, ◌||◌, ◌≡◌}
use Rattle.std.proofs.Math.Bool.{true, false}
use Rattle.std.proofs.Math.Path.{refl, ap}
use Rattle.std.proofs.Common.{sym, ◌∙◌, take_at}
use mathlib.Core.List.{List, [], ◌∷◌, ◌++◌, append_assoc}
use Rattle.std.proofs.Math.Dec.{eqb}
use Rattle.std.proofs.Math.ListN.{length, drop, length-append}
use borrow.Author.Tests.{lt-ltb, le-leb, eq-eqb, ne_eqb, eqb-true, eqb-false}
use Rattle.names.specs.Path.{is_path}
use Rattle.names.specs.Identifier.{is_identifier}
use Rattle.bundle.specs.Bundle.{Text}
use Rattle.bundle.specs.Encode.{string, count_bytes, joined, element, remapping}
use Rattle.bundle.specs.Encode.{counted_by as count-list}
use Rattle.bundle.specs.Limits.{width}
use Rattle.bundle.specs.Scan.{byte, text, count, past_count, and_then, times, scan_string, scan_formed, scan_alias, scan_field, scan_count}
use Rattle.bundle.specs.Decode.{each, far, counted_by, after, after_element, after_remapping, after_list_by, element_at, remapping_at}
use Rattle.bundle.specs.Form.{Every, IsAlias, Short, FormedElement, FormedRemapping}
use Rattle.bundle.specs.Stand.{at_byte, at_count, count-length, at-append}
use Rattle.bundle.specs.declared.Width.{Width}
use Rattle.bundle.specs.Results.{Scan}
use Rattle.bundle.specs.Results.{Next}
use Rattle.bundle.specs.declared.Field.TheVariants.{Element as ElementField, Remapping as RemappingField}

-- the field x, written at `at`, is read
pub record Writ {A : Type 0} (enc : A → List ℕ) (skip : ℕ → ℕ) (get : ℕ → A) (f : ℕ → Scan) (x : A) (at : ℕ) : Type 0 where
  pub scans : f at ≡ Next (at + length (enc x))
  pub gets : get at ≡ x
  pub skips : skip at ≡ at + length (enc x)

abbrev pub Writes : {A : Type 0} → List ℕ → ℕ → (A → Type 0) → (A → List ℕ) → (ℕ → ℕ) → (ℕ → A) → (ℕ → Scan) → Type 0
Writes {A} s end P enc skip get f = (x : A) (at : ℕ) (rest : List ℕ) → P x → drop at s ≡ enc x ++ rest → at + length (enc x) ≤ end → Writ enc skip get f x at

module _ (s : List ℕ) (end : ℕ) where
  string-any : (t : Text) (at : ℕ) (rest : List ℕ) → drop at s ≡ string t ++ rest → at + length (string t) ≤ end → Writ string (after s) (text s) (scan_string s end) t at
  unfolding string scan_string
  string-any t at rest e h =
      let b = at_byte s at (length t) (t ++ rest) e in
      let n = b.0 in
      let l : at < end = omega arith in
      let m : byte s at ≤ end - (at + 1) = omega arith in
      let z : at + 1 + byte s at ≡ at + suc (length t) = omega arith in
      record {
        scans = rw (lt-ltb at end l, le-leb (byte s at) (end - (at + 1)) m, z);
        gets = rw b.1 (take_at t rest (byte s at) (sym n));
        skips = z;
      }

  pub string_writ : Writes s end Short string (after s) (text s) (scan_string s end)
  string_writ t at rest p e h = string-any t at rest e h

  pub formed_writ : (form : List ℕ → Bool) (k : ℕ) → Writes s end (λ t. form t ≡ true) string (after s) (text s) (scan_formed form k s end)
  unfolding scan_formed
  formed_writ form k t at rest p e h =
      let w = string-any t at rest e h in
      record { scans = rw (w.scans, w.gets, p); gets = w.gets; skips = w.skips }

  first_byte : (t : Text) (at : ℕ) (rest : List ℕ) → drop at s ≡ string t ++ rest → byte s at ≡ length t
  unfolding string
  first_byte t at rest e = (at_byte s at (length t) (t ++ rest) e).0

  string-length : (t : Text) → length (string t) ≡ suc (length t)
  unfolding string
  string-length t = refl

  pub alias_writ : Writes s end IsAlias string (after s) (text s) (scan_alias s end)
  unfolding scan_alias
  alias_writ t at rest p e h = go (eqb (length t) 0) refl p
    where
      go : (b : Bool) → eqb (length t) 0 ≡ b → (b || is_identifier t) ≡ true → Writ string (after s) (text s) (scan_alias s end) t at
      go true q p =
          let w = string-any t at rest e h in
          let z : length t ≡ 0 = eqb-true _ _ q in
          let n : byte s at ≡ 0 = first_byte t at rest e ∙ z in
          let l = string-length t in
          let lt : at < end = omega arith in
          let x : at + 1 ≡ at + length (string t) = omega arith in
          record { scans = rw (lt-ltb at end lt, eq-eqb (byte s at) 0 n, x); gets = w.gets; skips = w.skips }
      go false q p =
          let w = formed_writ is_identifier 5 t at rest p e h in
          let f = first_byte t at rest e in
          let n : byte s at ≡ 0 → ⊥ = λ (k : byte s at ≡ 0). eqb-false (length t) 0 q (sym f ∙ k) in
          let l = string-length t in
          let lt : at < end = omega arith in
          record { scans = rw (lt-ltb at end lt, ne_eqb (byte s at) 0 n) w.scans; gets = w.gets; skips = w.skips }

  pub element_writ : Writes s end FormedElement element (after_element s) (element_at s) (scan_field ElementField s end)
  unfolding scan_field element_at element
  element_writ x at rest p e h =
      let X = string x.name in
      let Y = string x.alias in
      let len : length (X ++ Y) ≡ length X + length Y = length-append X Y in
      let e1 : drop at s ≡ X ++ (Y ++ rest) = e ∙ append_assoc X Y rest in
      let a = formed_writ is_identifier 5 x.name at (Y ++ rest) p.0 e1 (omega arith) in
      let e2 : drop (at + length X) s ≡ Y ++ rest = at-append s at X (Y ++ rest) e1 in
      let b = alias_writ x.alias (at + length X) rest p.1 e2 (omega arith) in
      let z : at + length X + length Y ≡ at + length (X ++ Y) = omega arith in
      record {
        scans = rw a.scans (b.scans ∙ ap Next z);
        gets = rw (a.gets, a.skips, b.gets);
        skips = rw a.skips (b.skips ∙ z);
      }

  pub remapping_writ : Writes s end FormedRemapping remapping (after_remapping s) (remapping_at s) (scan_field RemappingField s end)
  unfolding scan_field remapping_at remapping
  remapping_writ x at rest p e h =
      let X = string x.context in
      let Y = string x.name in
      let Z = string x.target in
      let len : length (X ++ (Y ++ Z)) ≡ length X + (length Y + length Z) = length-append X (Y ++ Z) ∙ ap (λ (n : ℕ). length X + n) (length-append Y Z) in
      let e1 : drop at s ≡ X ++ (Y ++ (Z ++ rest)) = e ∙ (append_assoc X (Y ++ Z) rest ∙ ap (λ (l : List ℕ). X ++ l) (append_assoc Y Z rest)) in
      let a = formed_writ is_path 4 x.context at (Y ++ (Z ++ rest)) p.0 e1 (omega arith) in
      let e2 : drop (at + length X) s ≡ Y ++ (Z ++ rest) = at-append s at X (Y ++ (Z ++ rest)) e1 in
      let b = string_writ x.name (at + length X) (Z ++ rest) p.1.0 e2 (omega arith) in
      let e3 : drop (at + length X + length Y) s ≡ Z ++ rest = at-append s (at + length X) Y (Z ++ rest) e2 in
      let d = formed_writ is_path 4 x.target (at + length X + length Y) rest p.1.1 e3 (omega arith) in
      let z : at + length X + length Y + length Z ≡ at + length (X ++ (Y ++ Z)) = omega arith in
      record {
        scans = rw (a.scans, b.scans) (d.scans ∙ ap Next z);
        gets = rw (a.gets, a.skips, b.gets, b.skips, d.gets);
        skips = rw (a.skips, b.skips) (d.skips ∙ z);
      }

  -- LISTS
  pub record ListWrit {A : Type 0} (enc : A → List ℕ) (skip : ℕ → ℕ) (get : ℕ → A) (f : ℕ → Scan) (l : List A) (at : ℕ) : Type 0 where
    pub scans : times (length l) f at ≡ Next (at + length (joined enc l))
    pub gets : each skip get (length l) at ≡ l
    pub skips : far skip (length l) at ≡ at + length (joined enc l)

  times_writ : {A : Type 0} (P : A → Type 0) (enc : A → List ℕ) (skip : ℕ → ℕ) (get : ℕ → A) (f : ℕ → Scan) → Writes s end P enc skip get f
      → (l : List A) (at : ℕ) (rest : List ℕ) → Every P l → drop at s ≡ joined enc l ++ rest → at + length (joined enc l) ≤ end → ListWrit enc skip get f l at
  unfolding times each far joined Every
  times_writ P enc skip get f W [] at rest p e h = let z : at ≡ at + 0 = omega arith in record { scans = ap Next z; gets = refl; skips = z }
  times_writ P enc skip get f W (x ∷ l) at rest p e h =
      let X = enc x in
      let Y = joined enc l in
      let len : length (X ++ Y) ≡ length X + length Y = length-append X Y in
      let e1 : drop at s ≡ X ++ (Y ++ rest) = e ∙ append_assoc X Y rest in
      let a = W x at (Y ++ rest) p.0 e1 (omega arith) in
      let e2 : drop (at + length X) s ≡ Y ++ rest = at-append s at X (Y ++ rest) e1 in
      let b = times_writ P enc skip get f W l (at + length X) rest p.1 e2 (omega arith) in
      let z : at + length X + length Y ≡ at + length (X ++ Y) = omega arith in
      record {
        scans = rw a.scans (b.scans ∙ ap Next z);
        gets = rw (a.gets, a.skips, b.gets);
        skips = ap (λ (n : ℕ). far skip (length l) n) a.skips ∙ (b.skips ∙ z);
      }

  pub record CountWrit {A : Type 0} (w : Width) (enc : A → List ℕ) (skip : ℕ → ℕ) (get : ℕ → A) (f : ℕ → Scan) (low high : ℕ) (l : List A) (at : ℕ) : Type 0 where
    pub counts : count w s at ≡ length l
    pub count_scans : scan_count w low high s end at ≡ Next (past_count w at)
    pub scans : and_then (scan_count w low high s end at) (times (count w s at) f) ≡ Next (at + length (count-list w enc l))
    pub gets : counted_by w skip get s at ≡ l
    pub skips : after_list_by w skip s at ≡ at + length (count-list w enc l)

  pub count-byte : {A : Type 0} (w : Width) (enc : A → List ℕ) (low high : ℕ) (l : List A) (at : ℕ) (rest : List ℕ) → low ≤ length l → length l ≤ high
      → drop at s ≡ count-list w enc l ++ rest → at + length (count-list w enc l) ≤ end
      → (count w s at ≡ length l) × (drop (past_count w at) s ≡ joined enc l ++ rest) × (scan_count w low high s end at ≡ Next (past_count w at)) × (length (count-list w enc l) ≡ width w + length (joined enc l))
  unfolding scan_count
  count-byte w enc low high l at rest lo hi e h =
      let C = count_bytes w (length l) in
      let b = at_count s w at (length l) (joined enc l ++ rest) (e ∙ append_assoc C (joined enc l) rest) in
      let len : length (C ++ joined enc l) ≡ width w + length (joined enc l) = length-append C (joined enc l) ∙ ap (λ (n : ℕ). n + length (joined enc l)) (count-length s w (length l)) in
      let n = b.0 in
      let le : past_count w at ≤ end = omega arith in
      let x : low ≤ count w s at = omega arith in
      let y : count w s at ≤ high = omega arith in
      (b.0, b.1, rw (le-leb (past_count w at) end le, le-leb low (count w s at) x, le-leb (count w s at) high y), len)

  pub count_writ : {A : Type 0} (w : Width) (P : A → Type 0) (enc : A → List ℕ) (skip : ℕ → ℕ) (get : ℕ → A) (f : ℕ → Scan) → Writes s end P enc skip get f
      → (low high : ℕ) (l : List A) (at : ℕ) (rest : List ℕ) → low ≤ length l → length l ≤ high → Every P l
      → drop at s ≡ count-list w enc l ++ rest → at + length (count-list w enc l) ≤ end → CountWrit w enc skip get f low high l at
  count_writ w P enc skip get f W low high l at rest lo hi p e h =
      let c = count-byte w enc low high l at rest lo hi e h in
      let n = c.3 in
      let t = times_writ P enc skip get f W l (past_count w at) rest p c.1 (omega arith) in
      let z : past_count w at + length (joined enc l) ≡ at + length (count-list w enc l) = omega arith in
      record {
        counts = c.0;
        count_scans = c.2;
        scans = rw (c.2, c.0) (t.scans ∙ ap Next z);
        gets = rw c.0 t.gets;
        skips = rw c.0 (t.skips ∙ z);
      }
