-- Laws of the walk over items: an item that is read moves on within its container and its limits, and the number that bounds
-- the siblings does not matter where it is large enough. Assumes nothing.
use Prim.Native.Nat.{ℕ, zero, suc, ◌+◌, ◌-◌, ◌≤◌, ◌<◌}
use native.Mathlib.Omega.{arith}
use Rattle.std.specs.Prelude.{Bool, ◌≡◌, List, eqb, ltb}
use Rattle.std.proofs.Math.Bool.{true, false, cond}
use Rattle.std.proofs.Math.Path.{refl}
use borrow.Author.Tests.{eqb-true, lt-ltb, le-ltb, eq-eqb, ne_eqb}
use Rattle.names.specs.Identifier.{is_identifier}
use Rattle.bundle.specs.Limits.{item_limit, most_uses, use_kind, module_kind, depth_limit}
use Rattle.bundle.specs.Scan.{byte, version_of, and_then, scan_name, scan_path, scan_length, uses_after, scan_head, scan_body, scan_end, walk_on, walk_then, scan_item_with, siblings, scan_module, scan_item, scan_items, scan_file, scan_files}
use Rattle.bundle.specs.Steps.{string-next, formed-next, length-next, end-next, Head, head-next, read-then, walked_on, walked_then}
use Rattle.bundle.specs.Results.{Next, Bad}
use Rattle.bundle.specs.Results.{Walk}
use Rattle.bundle.specs.Results.{Past, Fault}

-- most: the most uses
pub record Went (most at end a c u : ℕ) : Type 0 where
  pub from : at ≤ a
  pub to : a ≤ end
  pub count : c ≤ item_limit
  pub uses : u ≤ most

-- every item that is read moves on
abbrev pub Goes : ℕ → (ℕ → ℕ → ℕ → Walk) → ℕ → Type 0
Goes most one end = (at c u a c' u' : ℕ) → one at c u ≡ Past a c' u' → Went most (suc at) end a c' u'

stays : (most at end c u a c' u' : ℕ) → Went most at end at c u → Past at c u ≡ Past a c' u' → Went most at end a c' u'
stays most at end c u a c' u' w h =
    let x : at ≡ a = cc in
    let y : c ≡ c' = cc in
    let z : u ≡ u' = cc in
    record { from = omega arith; to = omega (arith, w.to); count = omega (arith, w.count); uses = omega (arith, w.uses) }

module _ {most : ℕ} (one : ℕ → ℕ → ℕ → Walk) (end : ℕ) (G : Goes most one end) where
  siblings_go : (k at c u a c' u' : ℕ) → Went most at end at c u → siblings k one end at c u ≡ Past a c' u' → Went most at end a c' u'
  unfolding siblings
  siblings_go zero at c u a c' u' w h = stays most at end c u a c' u' w h
  siblings_go (suc k) at c u a c' u' w h = go (ltb at end) (siblings_go k) (stays most at end c u a c' u' w) h
    where
      go : (b : Bool)
          → ((at c u a c' u' : ℕ) → Went most at end at c u → siblings k one end at c u ≡ Past a c' u' → Went most at end a c' u')
          → (Past at c u ≡ Past a c' u' → Went most at end a c' u')
          → cond b (walk_then (one at c u) (siblings k one end)) (Past at c u) ≡ Past a c' u'
          → Went most at end a c' u'
      go false rec stop h = stop h
      go true rec stop h =
          let m = walked_then (one at c u) h in
          let v = G at c u m.at m.count m.uses m.first in
          let t = v.to in
          let r = rec m.at m.count m.uses a c' u' (record { from = omega arith; to = t; count = v.count; uses = v.uses }) m.second in
          record { from = omega (arith, v.from, r.from); to = r.to; count = r.count; uses = r.uses }

  -- two bounds that are large enough
  pub fuel : (k j at c u : ℕ) → end - at ≤ k → end - at ≤ j → siblings k one end at c u ≡ siblings j one end at c u
  unfolding siblings
  fuel zero zero at c u p q = refl
  fuel zero (suc j) at c u p q = let z : end ≤ at = omega arith in simp (le-ltb _ _ z)
  fuel (suc k) zero at c u p q = let z : end ≤ at = omega arith in simp (le-ltb _ _ z)
  fuel (suc k) (suc j) at c u p q = go (one at c u) refl (fuel k j)
    where
      go : (X : Walk) → one at c u ≡ X
          → ((at c u : ℕ) → end - at ≤ k → end - at ≤ j → siblings k one end at c u ≡ siblings j one end at c u)
          → cond (ltb at end) (walk_then X (siblings k one end)) (Past at c u) ≡ cond (ltb at end) (walk_then X (siblings j one end)) (Past at c u)
      go (Fault n m) e rec = refl
      go (Past a c' u') e rec =
          let v = (G at c u a c' u' e).from in
          rw (rec a c' u' (omega arith) (omega arith))

  -- the loop over siblings
  pub siblings-next : (a c u x y z : ℕ) → a < end → one a c u ≡ Past x y z → siblings (end - a) one end a c u ≡ siblings (end - x) one end x y z
  unfolding siblings
  siblings-next a c u x y z h e =
      let s : end - a ≡ suc (end - a - 1) = omega arith in
      let v = (G a c u x y z e).from in
      rw (s, lt-ltb _ _ h, e) (fuel (end - a - 1) (end - x) x y z (omega arith) (omega arith))

  pub siblings-fault : (a c u n p : ℕ) → a < end → one a c u ≡ Fault n p → siblings (end - a) one end a c u ≡ Fault n p
  unfolding siblings
  siblings-fault a c u n p h e =
      let s : end - a ≡ suc (end - a - 1) = omega arith in
      rw (s, lt-ltb _ _ h, e)

  pub siblings-done : (a c u : ℕ) → end ≤ a → siblings (end - a) one end a c u ≡ Past a c u
  unfolding siblings
  siblings-done a c u h = let s : end - a ≡ 0 = omega arith in rw s

-- an item's module goes on from the item's head
abbrev Enters : List ℕ → (ℕ → ℕ → ℕ → ℕ → Walk) → Type 0
Enters s in_module =
    (next at c u a c' u' : ℕ) → at + 4 ≤ next → c < item_limit → u ≤ most_uses (version_of s) → in_module next at c u ≡ Past a c' u' → Went (most_uses (version_of s)) (suc at) next a c' u'

item_goes : (s : List ℕ) (in_module : ℕ → ℕ → ℕ → ℕ → Walk) → Enters s in_module → (end : ℕ) → Goes (most_uses (version_of s)) (scan_item_with in_module s end) end
unfolding scan_item_with
item_goes s in_module E end at c u a c' u' h =
    let m = walked_on (scan_head s end at c u) h in
    go m.mid (head-next s end at c u m.first) (eqb (byte s (at + 2)) module_kind) refl m.second
  where
    go : (next : ℕ) → Head s end at c u next → (b : Bool) → eqb (byte s (at + 2)) module_kind ≡ b
        → cond b (in_module next at c u)
        (walk_on (and_then (scan_body s next at) (scan_end next)) (λ past. Past past (c + 1) (uses_after s at u)))
        ≡ Past a c' u'
        → Went (most_uses (version_of s)) (suc at) end a c' u'
    go next hd true q h =
        let k : byte s (at + 2) ≡ module_kind = eqb-true _ _ q in
        let ne : eqb (byte s (at + 2)) use_kind ≡ false = ne_eqb _ _ (λ (e : byte s (at + 2) ≡ use_kind). omega arith) in
        let small : u ≤ most_uses (version_of s) = rw ne at hd.uses_small in
        let w = E next at c u a c' u' hd.long hd.count_small small h in
        record { from = w.from; to = omega (arith, w.to, hd.within); count = w.count; uses = w.uses }
    go next hd false q h =
        let b = walked_on (and_then (scan_body s next at) (scan_end next)) h in
        let d = read-then (scan_body s next at) b.first in
        let e = end-next s next d.mid d.second in
        let f = b.second in
        let x : b.mid ≡ a = cc in
        let y : c + 1 ≡ c' = cc in
        let z : uses_after s at u ≡ u' = cc in
        record {
          from = omega (arith, hd.long);
          to = omega (arith, hd.within);
          count = omega (arith, hd.count_small);
          uses = rw z at hd.uses_small;
        }

module_enters : (depth : ℕ) (s : List ℕ) → Enters s (scan_module depth s)
unfolding scan_module
module_enters zero s next at c u a c' u' h4 hc hu h = absurd (no h)
  where
    no : Fault 3 at ≡ Past a c' u' → ⊥
    no e = let z : ◌≡◌ {A = ℕ} 0 1 = cc in omega arith
module_enters (suc depth) s next at c u a c' u' h4 hc hu h =
    let m = walked_on (scan_name s next (at + 4)) h in
    let n = formed-next s next (at + 4) is_identifier 5 m.first in
    let b = string-next s next (at + 4) n.0 in
    let w = siblings_go (scan_item depth s next) next (item_goes s (scan_module depth s) (module_enters depth s) next)
    (next - m.mid) m.mid (c + 1) u a c' u'
    (record { from = omega arith; to = b.2; count = omega arith; uses = hu }) m.second in
    record { from = omega (arith, w.from); to = w.to; count = w.count; uses = w.uses }

-- THE ITEMS OF A BUNDLE
pub goes : (depth : ℕ) (s : List ℕ) (end : ℕ) → Goes (most_uses (version_of s)) (scan_item depth s end) end
goes depth s end = item_goes s (scan_module depth s) (module_enters depth s) end

pub items_go : (depth : ℕ) (s : List ℕ) (end at c u a c' u' : ℕ) → at ≤ end → c ≤ item_limit → u ≤ most_uses (version_of s) → scan_items depth s end at c u ≡ Past a c' u' → Went (most_uses (version_of s)) at end a c' u'
items_go depth s end at c u a c' u' h hc hu e =
    siblings_go (scan_item depth s end) end (goes depth s end) (end - at) at c u a c' u' (record { from = omega arith; to = h; count = hc; uses = hu }) e

pub file_goes : (s : List ℕ) (end at c u a c' u' : ℕ) → c ≤ item_limit → u ≤ most_uses (version_of s) → scan_file s end at c u ≡ Past a c' u' → (a ≤ end) × (c' ≤ item_limit) × (u' ≤ most_uses (version_of s))
unfolding scan_file
file_goes s end at c u a c' u' hc hu h =
    let m = walked_on (scan_path s end at) h in
    let n = walked_on (scan_length s end m.mid) m.second in
    let l = length-next s end m.mid n.first in
    let w = items_go depth_limit s n.mid (m.mid + 2) c u a c' u' (omega arith) hc hu n.second in
    (omega (arith, w.to), w.count, w.uses)

-- A LOOP OVER n FILES, i of which are done
module _ (s : List ℕ) (end n i a c u : ℕ) where
  pub files-next : (x y z : ℕ) → i < n → scan_file s end a c u ≡ Past x y z → scan_files (n - i) s end a c u ≡ scan_files (n - (i + 1)) s end x y z
  unfolding scan_files
  files-next x y z h e = let q : n - i ≡ suc (n - (i + 1)) = omega arith in rw (q, e)

  pub files-fault : (k p : ℕ) → i < n → scan_file s end a c u ≡ Fault k p → scan_files (n - i) s end a c u ≡ Fault k p
  unfolding scan_files
  files-fault k p h e = let q : n - i ≡ suc (n - (i + 1)) = omega arith in rw (q, e)

  pub files-done : n ≤ i → scan_files (n - i) s end a c u ≡ Past a c u
  unfolding scan_files
  files-done h = let q : n - i ≡ 0 = omega arith in rw q

-- EACH WAY THROUGH AN ITEM
enters-suc : (d : ℕ) (s : List ℕ) (end at c u next : ℕ) → scan_head s end at c u ≡ Next next → (inner : ℕ) → byte s (at + 2) ≡ module_kind → scan_name s next (at + 4) ≡ Next inner → scan_items d s next inner (c + 1) u ≡ scan_item (suc d) s end at c u
unfolding scan_item_with scan_module
enters-suc d s end at c u next h inner k e = rw (h, eq-eqb _ _ k, e)

module _ (depth : ℕ) (s : List ℕ) (end at c u : ℕ) where
  pub head-fault : (n p : ℕ) → scan_head s end at c u ≡ Bad n p → Fault n p ≡ scan_item depth s end at c u
  unfolding scan_item_with
  head-fault n p h = rw h

  module _ (next : ℕ) (h : scan_head s end at c u ≡ Next next) where
    pub too_deep : byte s (at + 2) ≡ module_kind → depth ≡ 0 → Fault 3 at ≡ scan_item depth s end at c u
    unfolding scan_item_with scan_module
    too_deep k z = rw (h, eq-eqb _ _ k, z)

    pub name-fault : (n p : ℕ) → byte s (at + 2) ≡ module_kind → (depth ≡ 0 → ⊥) → scan_name s next (at + 4) ≡ Bad n p → Fault n p ≡ scan_item depth s end at c u
    unfolding scan_item_with scan_module
    name-fault n p k z e = let q : depth ≡ suc (depth - 1) = omega arith in rw (h, eq-eqb _ _ k, q, e)

    pub enters : (inner : ℕ) → byte s (at + 2) ≡ module_kind → (depth ≡ 0 → ⊥) → scan_name s next (at + 4) ≡ Next inner → scan_items (depth - 1) s next inner (c + 1) u ≡ scan_item depth s end at c u
    enters inner k z e = let q : suc (depth - 1) ≡ depth = omega arith in rw q at (enters-suc (depth - 1) s end at c u next h inner k e)

    pub leaf_fault : (n p : ℕ) → (byte s (at + 2) ≡ module_kind → ⊥) → and_then (scan_body s next at) (scan_end next) ≡ Bad n p → Fault n p ≡ scan_item depth s end at c u
    unfolding scan_item_with
    leaf_fault n p k e = rw (h, ne_eqb _ _ k, e)

    pub leaf_past : (past : ℕ) → (byte s (at + 2) ≡ module_kind → ⊥) → and_then (scan_body s next at) (scan_end next) ≡ Next past → Past past (c + 1) (uses_after s at u) ≡ scan_item depth s end at c u
    unfolding scan_item_with
    leaf_past past k e = rw (h, ne_eqb _ _ k, e)
