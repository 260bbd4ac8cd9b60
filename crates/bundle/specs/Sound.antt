-- What is not refused by 1 to 6 is what the encoder writes, of a value in form. Assumes nothing.
use Prim.Native.Nat.{ℕ, zero, suc, ◌+◌, ◌≤◌, ◌<◌}
use native.Mathlib.Omega.{arith}
use Rattle.std.specs.Prelude.{Bool, ◌&&◌, ◌||◌, ◌≡◌, List, ◌++◌, ltb}
use Rattle.std.proofs.Math.Bool.{true, false, cond}
use Rattle.std.proofs.Math.Path.{refl, sym, ap}
use Rattle.std.proofs.Common.{◌∙◌}
use Rattle.std.proofs.Math.Dec.{eqb}
use Rattle.std.proofs.Math.ListN.{length}
use borrow.Author.Tests.{ltb-true, eqb-true, eq-eqb}
use Rattle.names.specs.Path.{is_path}
use Rattle.names.specs.Identifier.{is_identifier}
use Rattle.bundle.specs.Encode.{string, count_bytes, joined, element, remapping}
use Rattle.bundle.specs.Encode.{counted_by as count-list}
use Rattle.bundle.specs.Scan.{byte, text, count, past_count, and_then, times, scan_string, scan_formed, scan_path, scan_name, scan_alias, scan_field, scan_count}
use Rattle.bundle.specs.Decode.{each, far, counted_by, after, after_element, after_remapping, after_list_by, element_at, remapping_at}
use Rattle.bundle.specs.Steps.{string-next, formed-next, count_next, read-then, both}
use Rattle.bundle.specs.Form.{Every, IsPath, IsName, IsAlias, Short, FormedElement, FormedRemapping}
use Rattle.bundle.specs.Stand.{Bytes, Stands, stands-then, stands-count, text-length, stands-string}
use Rattle.bundle.specs.declared.Width.{Width}
use Rattle.bundle.specs.Results.{Scan}
use Rattle.bundle.specs.Results.{Next}
use Rattle.bundle.specs.declared.Field.TheVariants.{Element as ElementField, Remapping as RemappingField}

-- a field that was read from at to n
pub record Read {A : Type 0} (s : List ℕ) (end : ℕ) (P : A → Type 0) (enc : A → List ℕ) (skip : ℕ → ℕ) (get : ℕ → A) (at n : ℕ) : Type 0 where
  pub ends : n ≡ skip at
  pub within : n ≤ end
  pub onward : at ≤ n
  pub stands : Stands s at (enc (get at)) n
  pub formed : P (get at)

abbrev pub Reads : {A : Type 0} → List ℕ → ℕ → (A → Type 0) → (A → List ℕ) → (ℕ → ℕ) → (ℕ → A) → (ℕ → Scan) → Type 0
Reads s end P enc skip get f = (at n : ℕ) → f at ≡ Next n → Read s end P enc skip get at n

module _ (s : List ℕ) (B : Bytes s) (end : ℕ) (E : end ≤ length s) where
  pub string-read : Reads s end Short string (after s) (text s) (scan_string s end)
  string-read at n h =
      let b = string-next s end at h in
      let e = b.1 in
      let w = b.2 in
      let x = B at in
      record {
        ends = e;
        within = w;
        onward = omega arith;
        stands = rw e (stands-string s at (omega arith));
        formed = rw (text-length s at (omega arith)) x;
      }

  pub formed-read : (form : List ℕ → Bool) (k : ℕ) → Reads s end (λ t. form t ≡ true) string (after s) (text s) (scan_formed form k s end)
  formed-read form k at n h =
      let f = formed-next s end at form k h in
      let r = string-read at n f.0 in
      record { ends = r.ends; within = r.within; onward = r.onward; stands = r.stands; formed = f.1 }

  pub alias-read : Reads s end IsAlias string (after s) (text s) (scan_alias s end)
  unfolding scan_alias
  alias-read at n h = go (ltb at end && eqb (byte s at) 0) refl h
    where
      go : (b : Bool) → (ltb at end && eqb (byte s at) 0) ≡ b → cond b (Next (at + 1)) (scan_name s end at) ≡ Next n → Read s end IsAlias string (after s) (text s) at n
      go true q h =
          let t = both (ltb at end) (eqb (byte s at) 0) q in
          let l : at < end = ltb-true _ _ t.0 in
          let z : byte s at ≡ 0 = eqb-true _ _ t.1 in
          let e : at + 1 ≡ n = cc in
          let k : n ≡ after s at = omega arith in
          let m : length (text s at) ≡ 0 = text-length s at (omega arith) ∙ z in
          record { ends = k; within = omega arith; onward = omega arith; stands = rw k (stands-string s at (omega arith)); formed = rw (eq-eqb (length (text s at)) 0 m) }
      go false q h =
          let r = formed-read is_identifier 5 at n h in
          record { ends = r.ends; within = r.within; onward = r.onward; stands = r.stands; formed = or_right (eqb (length (text s at)) 0) r.formed }
        where
          or_right : (a : Bool) {b : Bool} → b ≡ true → (a || b) ≡ true
          or_right true e = refl
          or_right false e = e

  element-two : (at mid n : ℕ) → Read s end IsName string (after s) (text s) at mid → Read s end IsAlias string (after s) (text s) mid n
      → Read s end FormedElement element (after_element s) (element_at s) at n
  unfolding element_at element
  element-two at mid n a b =
      let b' : Read s end IsAlias string (after s) (text s) (after s at) n = rw a.ends at b in
      let st : Stands s at (string (text s at)) (after s at) = rw a.ends at a.stands in
      record {
        ends = b'.ends;
        within = b.within;
        onward = omega (arith, a.onward, b.onward);
        stands = stands-then s (string (text s at)) (string (text s (after s at))) at (after s at) n st b'.stands;
        formed = (a.formed, b'.formed);
      }

  pub element-read : Reads s end FormedElement element (after_element s) (element_at s) (scan_field ElementField s end)
  unfolding scan_field
  element-read at n h =
      let m = read-then (scan_name s end at) h in
      element-two at m.mid n (formed-read is_identifier 5 at m.mid m.first) (alias-read m.mid n m.second)

  remapping_three : (at mid mid' n : ℕ) → Read s end IsPath string (after s) (text s) at mid → Read s end Short string (after s) (text s) mid mid'
      → Read s end IsPath string (after s) (text s) mid' n → Read s end FormedRemapping remapping (after_remapping s) (remapping_at s) at n
  unfolding remapping_at remapping
  remapping_three at mid mid' n a b d =
      let b' : Read s end Short string (after s) (text s) (after s at) mid' = rw a.ends at b in
      let d' : Read s end IsPath string (after s) (text s) (after s (after s at)) n = rw b'.ends at d in
      let st : Stands s at (string (text s at)) (after s at) = rw a.ends at a.stands in
      let su : Stands s (after s at) (string (text s (after s at))) (after s (after s at)) = rw b'.ends at b'.stands in
      record {
        ends = d'.ends;
        within = d.within;
        onward = omega (arith, a.onward, b.onward, d.onward);
        stands = stands-then s (string (text s at)) (string (text s (after s at)) ++ string (text s (after s (after s at)))) at (after s at) n st
            (stands-then s (string (text s (after s at))) (string (text s (after s (after s at)))) (after s at) (after s (after s at)) n su d'.stands);
        formed = (a.formed, (b'.formed, d'.formed));
      }

  pub remapping-read : Reads s end FormedRemapping remapping (after_remapping s) (remapping_at s) (scan_field RemappingField s end)
  unfolding scan_field
  remapping-read at n h =
      let m = read-then (scan_path s end at) h in
      let k = read-then (scan_string s end m.mid) m.second in
      remapping_three at m.mid k.mid n (formed-read is_path 4 at m.mid m.first) (string-read m.mid k.mid k.first) (formed-read is_path 4 k.mid n k.second)

  -- LISTS
  pub record ListRead {A : Type 0} (P : A → Type 0) (enc : A → List ℕ) (skip : ℕ → ℕ) (get : ℕ → A) (n at x : ℕ) : Type 0 where
    pub ends : x ≡ far skip n at
    pub within : x ≤ end
    pub onward : at ≤ x
    pub stands : Stands s at (joined enc (each skip get n at)) x
    pub every : Every P (each skip get n at)
    pub size : length (each skip get n at) ≡ n

  one_more : {A : Type 0} (P : A → Type 0) (enc : A → List ℕ) (skip : ℕ → ℕ) (get : ℕ → A) (n at mid x : ℕ)
      → Read s end P enc skip get at mid → ListRead P enc skip get n mid x → ListRead P enc skip get (suc n) at x
  unfolding far each joined Every
  one_more P enc skip get n at mid x a b =
      let b' : ListRead P enc skip get n (skip at) x = rw a.ends at b in
      let st : Stands s at (enc (get at)) (skip at) = rw a.ends at a.stands in
      record {
        ends = b'.ends;
        within = b.within;
        onward = omega (arith, a.onward, b.onward);
        stands = stands-then s (enc (get at)) (joined enc (each skip get n (skip at))) at (skip at) x st b'.stands;
        every = (a.formed, b'.every);
        size = ap suc b'.size;
      }

  pub times-read : {A : Type 0} (P : A → Type 0) (enc : A → List ℕ) (skip : ℕ → ℕ) (get : ℕ → A) (f : ℕ → Scan) → Reads s end P enc skip get f
      → (n at x : ℕ) → at ≤ end → times n f at ≡ Next x → ListRead P enc skip get n at x
  unfolding times far each joined Every
  times-read P enc skip get f R zero at x h e =
      let z : at ≡ x = cc in
      record { ends = sym z; within = omega arith; onward = omega arith; stands = rw z; every = tt; size = refl }
  times-read P enc skip get f R (suc n) at x h e =
      let m = read-then (f at) e in
      let a = R at m.mid m.first in
      one_more P enc skip get n at m.mid x a (times-read P enc skip get f R n m.mid x a.within m.second)

  -- a counted list
  pub record CountRead {A : Type 0} (w : Width) (P : A → Type 0) (enc : A → List ℕ) (skip : ℕ → ℕ) (get : ℕ → A) (low high at x : ℕ) : Type 0 where
    pub ends : x ≡ after_list_by w skip s at
    pub within : x ≤ end
    pub onward : at ≤ x
    pub stands : Stands s at (count-list w enc (counted_by w skip get s at)) x
    pub every : Every P (counted_by w skip get s at)
    pub least : low ≤ length (counted_by w skip get s at)
    pub most : length (counted_by w skip get s at) ≤ high

  counting : {A : Type 0} (w : Width) (P : A → Type 0) (enc : A → List ℕ) (skip : ℕ → ℕ) (get : ℕ → A) (low high at mid x : ℕ)
      → mid ≡ past_count w at → mid ≤ end → low ≤ count w s at → count w s at ≤ high → ListRead P enc skip get (count w s at) mid x → CountRead w P enc skip get low high at x
  counting w P enc skip get low high at mid x k l lo hi r =
      let r' : ListRead P enc skip get (count w s at) (past_count w at) x = rw k at r in
      let q : length (counted_by w skip get s at) ≡ count w s at = r'.size in
      record {
        ends = r'.ends;
        within = r.within;
        onward = omega (arith, r.onward);
        stands = rw q (stands-then s (count_bytes w (count w s at)) (joined enc (counted_by w skip get s at)) at (past_count w at) x (stands-count s B w at (omega arith)) r'.stands);
        every = r'.every;
        least = rw q lo;
        most = rw q hi;
      }

  pub count-read : {A : Type 0} (w : Width) (P : A → Type 0) (enc : A → List ℕ) (skip : ℕ → ℕ) (get : ℕ → A) (f : ℕ → Scan) → Reads s end P enc skip get f
      → (low high at x : ℕ) → and_then (scan_count w low high s end at) (times (count w s at) f) ≡ Next x → CountRead w P enc skip get low high at x
  count-read w P enc skip get f R low high at x h =
      let m = read-then (scan_count w low high s end at) h in
      let c = count_next s end at w low high m.first in
      counting w P enc skip get low high at m.mid x c.0 c.1 c.2 c.3 (times-read P enc skip get f R (count w s at) m.mid x c.1 m.second)
