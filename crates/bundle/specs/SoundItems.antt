-- Items that are not refused are what the encoder writes, of items in form with their offsets as marks. Assumes nothing.
use Prim.Native.Nat.{ℕ, zero, suc, ◌+◌, ◌-◌, ◌≤◌, ◌<◌}
use native.Mathlib.Omega.{arith}
use Rattle.std.specs.Prelude.{Bool}
use Rattle.std.proofs.Math.Bool.{true, false, cond}
use Rattle.std.proofs.Math.Path.{◌≡◌, refl, sym, ap}
use Rattle.std.proofs.Common.{◌∙◌}
use mathlib.Core.List.{List, [], ◌∷◌, ◌++◌}
use Rattle.std.proofs.Math.Dec.{eqb, ltb}
use Rattle.std.proofs.Math.ListN.{length}
use borrow.Author.Tests.{ltb-true, ltb-false, eqb-true, eqb-false, ne_eqb}
use Rattle.names.specs.Identifier.{is_identifier}
use Rattle.bundle.specs.Bundle.{Text, Element, Items, named, use_of, module_of, ignored}
use Rattle.bundle.specs.Limits.{segment_limit, element_limit, use_kind, module_kind, ignored_kind}
use Rattle.bundle.specs.Encode.{string, sized, element, items}
use Rattle.bundle.specs.Encode.{counted as count-list}
use Rattle.bundle.specs.Scan.{byte, text, and_then, scan_name, scan_field, scan_list, scan_use, uses_after, scan_head, scan_body, scan_end, walk_on, walk_then, scan_item_with, siblings, scan_module, scan_item, scan_items}
use Rattle.bundle.specs.Decode.{counted, after, after_element, after_length, after_list, element_at, head_at, item_at, items_at}
use Rattle.bundle.specs.Steps.{Head, head-next, end-next, read-then, walked_on, walked_then}
use Rattle.bundle.specs.Access.{item_module, item_use, item-ignored, item-named, inside_of, items-end, items-step}
use Rattle.bundle.specs.Form.{Every, IsName, FormedElement, Formed, Marked, item_count, use_count}
use Rattle.bundle.specs.Stand.{Bytes, Stands, stands-then, stands-length, stands-byte, stands-sized}
use Rattle.bundle.specs.Sound.{Read, CountRead, formed-read, element-read, count-read}
use Rattle.bundle.specs.declared.Width.TheVariants.{Byte}
use Rattle.bundle.specs.Results.{Next}
use Rattle.bundle.specs.Results.{Past, Fault}
use Rattle.bundle.specs.declared.Field.TheVariants.{Name, Element as ElementField}

-- the items x stand from at to end, with c items and u uses before them, c' and u' after them
pub record ItemsAre (s : List ℕ) (depth end at c u c' u' : ℕ) (x : Items) : Type 0 where
  pub stands : Stands s at (items x) end
  pub formed : Formed x depth
  pub marked : Marked x at
  pub count : c' ≡ c + item_count x
  pub uses : u' ≡ u + use_count x

-- a module behind its head: its name and the items x stand to its end
pub record ModuleIs (s : List ℕ) (depth next at c u c' u' : ℕ) (x : Items) : Type 0 where
  pub stands : Stands s (at + 4) (string (text s (at + 4)) ++ items x) next
  pub name : IsName (text s (at + 4))
  pub deep : 0 < depth
  pub formed : Formed x (depth - 1)
  pub marked : Marked x (at + 4 + length (string (text s (at + 4))))
  pub count : c' ≡ c + 1 + item_count x
  pub uses : u' ≡ u + use_count x

module _ (s : List ℕ) (B : Bytes s) where
  -- an item's head before its body X, and the items after it
  frame : (end at c u n : ℕ) → end ≤ length s → Head s end at c u n → (X : List ℕ) → Stands s (at + 4) X n → (rest : Items) → Stands s n (items rest) end
      → Stands s at (sized (byte s (at + 2) ∷ byte s (at + 3) ∷ X) ++ items rest) end × (n ≡ at + length (sized (byte s (at + 2) ∷ byte s (at + 3) ∷ X)))
  frame end at c u n E hd X st rest sr =
      let e : n ≡ after_length s at = hd.ends in
      let l = hd.long in
      let w = hd.within in
      let z3 : at + 2 + 1 ≡ at + 3 = omega arith in
      let z4 : at + 3 + 1 ≡ at + 4 = omega arith in
      let k : Stands s (at + 2) (byte s (at + 2) ∷ []) (at + 3) = rw z3 at (stands-byte s (at + 2) (omega arith)) in
      let v : Stands s (at + 3) (byte s (at + 3) ∷ []) (at + 4) = rw z4 at (stands-byte s (at + 3) (omega arith)) in
      let body : Stands s (at + 2) (byte s (at + 2) ∷ byte s (at + 3) ∷ X) n =
      stands-then s (byte s (at + 2) ∷ []) (byte s (at + 3) ∷ X) (at + 2) (at + 3) n k (stands-then s (byte s (at + 3) ∷ []) X (at + 3) (at + 4) n v st) in
      let whole : Stands s at (sized (byte s (at + 2) ∷ byte s (at + 3) ∷ X)) (after_length s at) = stands-sized s B (byte s (at + 2) ∷ byte s (at + 3) ∷ X) at (omega arith) (rw e at body) in
      let sr' : Stands s (after_length s at) (items rest) end = rw e at sr in
      let len = stands-length s (sized (byte s (at + 2) ∷ byte s (at + 3) ∷ X)) at (after_length s at) whole (omega arith) (omega arith) in
      (stands-then s (sized (byte s (at + 2) ∷ byte s (at + 3) ∷ X)) (items rest) at (after_length s at) end whole sr', e ∙ omega (arith, len))

  module _ (depth end at c u n : ℕ) (E : end ≤ length s) (hd : Head s end at c u n) (c' u' : ℕ) (rest : Items) where
    named-are : (byte s (at + 2) ≡ module_kind → ⊥) → (byte s (at + 2) ≡ use_kind → ⊥) → (byte s (at + 2) ≡ ignored_kind → ⊥)
        → Stands s (at + 4) (string (text s (at + 4))) n → IsName (text s (at + 4))
        → ItemsAre s depth end n (c + 1) u c' u' rest → ItemsAre s depth end at c u c' u' (named (head_at s at) rest)
    unfolding items Formed Marked item_count use_count
    named-are n5 n3 n6 st nm r =
        let f = frame end at c u n E hd (string (text s (at + 4))) st rest r.stands in
        let k1 = hd.kind_low in
        let k2 = hd.kind_high in
        record {
          stands = f.0;
          formed = (record { kind = (k1, (omega arith, n3)); visibility = hd.visibility; name = nm }, r.formed);
          marked = (refl, rw f.1 at r.marked);
          count = omega (arith, r.count);
          uses = r.uses;
        }

    ignored-are : byte s (at + 2) ≡ ignored_kind → n ≡ at + 4
        → ItemsAre s depth end n (c + 1) u c' u' rest → ItemsAre s depth end at c u c' u' (ignored at (byte s (at + 3)) rest)
    unfolding items Formed Marked item_count use_count
    ignored-are k e r =
        let st : Stands s (at + 4) [] n = rw e in
        let f = frame end at c u n E hd [] st rest r.stands in
        let g : Stands s at (sized (ignored_kind ∷ byte s (at + 3) ∷ []) ++ items rest) end = rw k at f.0 in
        let m : n ≡ at + length (sized (ignored_kind ∷ byte s (at + 3) ∷ [])) = rw k at f.1 in
        record {
          stands = g;
          formed = (hd.visibility, r.formed);
          marked = (refl, rw m at r.marked);
          count = omega (arith, r.count);
          uses = r.uses;
        }

    use_are : byte s (at + 2) ≡ use_kind → (segments : List Text) (elements : List Element)
        → Stands s (at + 4) (count-list string segments ++ count-list element elements) n
        → length segments ≤ segment_limit → Every IsName segments → length elements ≤ element_limit → Every FormedElement elements
        → ItemsAre s depth end n (c + 1) (u + 1) c' u' rest → ItemsAre s depth end at c u c' u' (use_of at (byte s (at + 3)) segments elements rest)
    unfolding items Formed Marked item_count use_count
    use_are k segments elements st ls es le ee r =
        let X = count-list string segments ++ count-list element elements in
        let f = frame end at c u n E hd X st rest r.stands in
        let g : Stands s at (sized (use_kind ∷ byte s (at + 3) ∷ X) ++ items rest) end = rw k at f.0 in
        let m : n ≡ at + length (sized (use_kind ∷ byte s (at + 3) ∷ X)) = rw k at f.1 in
        record {
          stands = g;
          formed = (hd.visibility, ((ls, es), ((le, ee), r.formed)));
          marked = (refl, rw m at r.marked);
          count = omega (arith, r.count);
          uses = omega (arith, r.uses);
        }

    module_are : byte s (at + 2) ≡ module_kind → (y z : ℕ) (inner : Items) → ModuleIs s depth n at c u y z inner
        → ItemsAre s depth end n y z c' u' rest → ItemsAre s depth end at c u c' u' (module_of at (byte s (at + 3)) (text s (at + 4)) inner rest)
    unfolding items Formed Marked item_count use_count
    module_are k y z inner i r =
        let X = string (text s (at + 4)) ++ items inner in
        let f = frame end at c u n E hd X i.stands rest r.stands in
        let g : Stands s at (sized (module_kind ∷ byte s (at + 3) ∷ X) ++ items rest) end = rw k at f.0 in
        let m : n ≡ at + length (sized (module_kind ∷ byte s (at + 3) ∷ X)) = rw k at f.1 in
        record {
          stands = g;
          formed = (hd.visibility, (i.name, ((i.deep, i.formed), r.formed)));
          marked = (refl, (i.marked, rw m at r.marked));
          count = omega (arith, r.count, i.count);
          uses = omega (arith, r.uses, i.uses);
        }

  -- a use's fields
  use_read : (end at n : ℕ) → end ≤ length s → scan_use s end at ≡ Next n
      → Stands s at (count-list string (counted (after s) (text s) s at) ++ count-list element (counted (after_element s) (element_at s) s (after_list (after s) s at))) n
      × ((length (counted (after s) (text s) s at) ≤ segment_limit) × Every IsName (counted (after s) (text s) s at))
      × ((length (counted (after_element s) (element_at s) s (after_list (after s) s at)) ≤ element_limit) × Every FormedElement (counted (after_element s) (element_at s) s (after_list (after s) s at)))
  unfolding scan_use scan_list scan_field count-list
  use_read end at n E h =
      let m = read-then (scan_list Byte Name segment_limit s end at) h in
      let a = count-read s B end E Byte IsName string (after s) (text s) (scan_name s end) (formed-read s B end E is_identifier 5) 0 segment_limit at m.mid m.first in
      let b = count-read s B end E Byte FormedElement element (after_element s) (element_at s) (scan_field ElementField s end) (element-read s B end E) 0 element_limit m.mid n m.second in
      use_two m.mid a b
    where
      use_two : (mid : ℕ) → CountRead s B end E Byte IsName string (after s) (text s) 0 segment_limit at mid → CountRead s B end E Byte FormedElement element (after_element s) (element_at s) 0 element_limit mid n
          → Stands s at (count-list string (counted (after s) (text s) s at) ++ count-list element (counted (after_element s) (element_at s) s (after_list (after s) s at))) n
          × ((length (counted (after s) (text s) s at) ≤ segment_limit) × Every IsName (counted (after s) (text s) s at))
          × ((length (counted (after_element s) (element_at s) s (after_list (after s) s at)) ≤ element_limit) × Every FormedElement (counted (after_element s) (element_at s) s (after_list (after s) s at)))
      use_two mid a b =
          let b' : CountRead s B end E Byte FormedElement element (after_element s) (element_at s) 0 element_limit (after_list (after s) s at) n = rw a.ends at b in
          let st : Stands s at (count-list string (counted (after s) (text s) s at)) (after_list (after s) s at) = rw a.ends at a.stands in
          (stands-then s (count-list string (counted (after s) (text s) s at)) (count-list element (counted (after_element s) (element_at s) s (after_list (after s) s at))) at (after_list (after s) s at) n st b'.stands, (a.most, a.every), (b'.most, b'.every))

  -- an item that is no module
  leaf_are : (depth end at c u n z : ℕ) → end ≤ length s → Head s end at c u n → (byte s (at + 2) ≡ module_kind → ⊥) → scan_body s n at ≡ Next n → z ≡ uses_after s at u
      → (c' u' : ℕ) (rest : Items) → ItemsAre s depth end n (c + 1) z c' u' rest → ItemsAre s depth end at c u c' u' (item_at (inside_of depth s) s at rest)
  unfolding scan_body
  leaf_are depth end at c u n z E hd n5 h zu c' u' rest r =
      go (eqb (byte s (at + 2)) ignored_kind) (eqb (byte s (at + 2)) use_kind) refl refl h
    where
      go : (b6 b3 : Bool) → eqb (byte s (at + 2)) ignored_kind ≡ b6 → eqb (byte s (at + 2)) use_kind ≡ b3
          → cond b6 (Next (at + 4)) (cond b3 (scan_use s n (at + 4)) (scan_name s n (at + 4))) ≡ Next n
          → ItemsAre s depth end at c u c' u' (item_at (inside_of depth s) s at rest)
      go true b3 q6 q3 h =
          let k : byte s (at + 2) ≡ ignored_kind = eqb-true _ _ q6 in
          let n3 : byte s (at + 2) ≡ use_kind → ⊥ = λ (e : byte s (at + 2) ≡ use_kind). omega arith in
          let same : z ≡ u = zu ∙ rw (ne_eqb (byte s (at + 2)) use_kind n3) in
          let e : at + 4 ≡ n = cc in
          rw (item-ignored (inside_of depth s) s at rest n5 n3 k) (ignored-are depth end at c u n E hd c' u' rest k (sym e) (rw same at r))
      go false true q6 q3 h =
          let k : byte s (at + 2) ≡ use_kind = eqb-true _ _ q3 in
          let more : z ≡ u + 1 = zu ∙ rw q3 in
          let f = use_read n (at + 4) n (omega (arith, hd.within)) h in
          rw (item_use (inside_of depth s) s at rest n5 k)
          (use_are depth end at c u n E hd c' u' rest k _ _ f.0 f.1.0 f.1.1 f.2.0 f.2.1 (rw more at r))
      go false false q6 q3 h =
          let n6 = eqb-false (byte s (at + 2)) ignored_kind q6 in
          let n3 = eqb-false (byte s (at + 2)) use_kind q3 in
          let same : z ≡ u = zu ∙ rw q3 in
          let f = formed-read s B n (omega (arith, hd.within)) is_identifier 5 (at + 4) n h in
          rw (item-named (inside_of depth s) s at rest n5 n3 n6) (named-are depth end at c u n E hd c' u' rest n5 n3 n6 f.stands f.formed (rw same at r))

  -- what reads modules
  abbrev Modules : ℕ → Type 0
  Modules depth =
      (next at c u a c' u' : ℕ) → next ≤ length s → at + 4 ≤ next → scan_module depth s next at c u ≡ Past a c' u'
      → (a ≡ next) × ModuleIs s depth next at c u c' u' (inside_of depth s next (after s (at + 4)))

  record ItemIs (depth end at c u a y z : ℕ) : Type 0 where
    ends : a ≡ after_length s at
    onward : at < a
    within : a ≤ end
    items_are : (c' u' : ℕ) (rest : Items) → ItemsAre s depth end a y z c' u' rest → ItemsAre s depth end at c u c' u' (item_at (inside_of depth s) s at rest)

  item-is : (depth : ℕ) → Modules depth → (end at c u a y z : ℕ) → end ≤ length s → scan_item depth s end at c u ≡ Past a y z → ItemIs depth end at c u a y z
  unfolding scan_item_with
  item-is depth M end at c u a y z E h =
      let m = walked_on (scan_head s end at c u) h in
      go m.mid (head-next s end at c u m.first) (eqb (byte s (at + 2)) module_kind) refl m.second
    where
      go : (n : ℕ) → Head s end at c u n → (b : Bool) → eqb (byte s (at + 2)) module_kind ≡ b
          → cond b (scan_module depth s n at c u) (walk_on (and_then (scan_body s n at) (scan_end n)) (λ past. Past past (c + 1) (uses_after s at u))) ≡ Past a y z
          → ItemIs depth end at c u a y z
      go n hd true q h =
          let k : byte s (at + 2) ≡ module_kind = eqb-true _ _ q in
          let i = M n at c u a y z (omega (arith, hd.within)) hd.long h in
          let e : a ≡ n = i.0 in
          let i' : ModuleIs s depth n at c u y z (inside_of depth s (after_length s at) (after s (at + 4))) = rw (← hd.ends) i.1 in
          record {
            ends = e ∙ hd.ends;
            onward = omega (arith, hd.long);
            within = omega (arith, hd.within);
            items_are = λ c' u' rest r. rw (item_module (inside_of depth s) s at rest k)
                (module_are depth end at c u n E hd c' u' rest k y z (inside_of depth s (after_length s at) (after s (at + 4))) i' (rw e at r));
          }
      go n hd false q h =
          let b = walked_on (and_then (scan_body s n at) (scan_end n)) h in
          let d = read-then (scan_body s n at) b.first in
          let t = end-next s n d.mid d.second in
          let f = b.second in
          let x : b.mid ≡ a = cc in
          let e : a ≡ n = sym x ∙ (t.1 ∙ t.0) in
          let yc : y ≡ c + 1 = cc in
          let zu : z ≡ uses_after s at u = cc in
          let body : scan_body s n at ≡ Next n = d.first ∙ ap Next t.0 in
          record {
            ends = e ∙ hd.ends;
            onward = omega (arith, hd.long);
            within = omega (arith, hd.within);
            items_are = λ c' u' rest r. leaf_are depth end at c u n z E hd (eqb-false (byte s (at + 2)) module_kind q) body zu c' u' rest (rw yc at (rw e at r));
          }

  none-are : (depth end at c u a c' u' : ℕ) → at ≤ end → end ≤ at → Past at c u ≡ Past a c' u' → (a ≡ end) × ItemsAre s depth end at c u c' u' (items_at depth s end at)
  unfolding items Formed Marked item_count use_count
  none-are depth end at c u a c' u' h g e =
      let x : at ≡ a = cc in
      let y : c ≡ c' = cc in
      let z : u ≡ u' = cc in
      let q : at ≡ end = omega arith in
      (sym x ∙ q, rw (items-end depth s end at g) (record { stands = rw q; formed = tt; marked = tt; count = omega arith; uses = omega arith }))

  siblings-are : (depth : ℕ) → Modules depth → (end : ℕ) → end ≤ length s → (k at c u a c' u' : ℕ) → end - at ≤ k → at ≤ end
      → siblings k (scan_item depth s end) end at c u ≡ Past a c' u' → (a ≡ end) × ItemsAre s depth end at c u c' u' (items_at depth s end at)
  unfolding siblings
  siblings-are depth M end E zero at c u a c' u' p h e = none-are depth end at c u a c' u' h (omega arith) e
  siblings-are depth M end E (suc k) at c u a c' u' p h e = go (ltb at end) refl (siblings-are depth M end E k) e
    where
      go : (b : Bool) → ltb at end ≡ b
          → ((at c u a c' u' : ℕ) → end - at ≤ k → at ≤ end → siblings k (scan_item depth s end) end at c u ≡ Past a c' u' → (a ≡ end) × ItemsAre s depth end at c u c' u' (items_at depth s end at))
          → cond b (walk_then (scan_item depth s end at c u) (siblings k (scan_item depth s end) end)) (Past at c u) ≡ Past a c' u'
          → (a ≡ end) × ItemsAre s depth end at c u c' u' (items_at depth s end at)
      go false q rec e = none-are depth end at c u a c' u' h (ltb-false _ _ q) e
      go true q rec e =
          let lt : at < end = ltb-true _ _ q in
          let m = walked_then (scan_item depth s end at c u) e in
          let i = item-is depth M end at c u m.at m.count m.uses E m.first in
          let r = rec m.at m.count m.uses a c' u' (omega (arith, i.onward)) i.within m.second in
          step m.at m.count m.uses lt i r
        where
          step : (x y z : ℕ) → at < end → ItemIs depth end at c u x y z → (a ≡ end) × ItemsAre s depth end x y z c' u' (items_at depth s end x) → (a ≡ end) × ItemsAre s depth end at c u c' u' (items_at depth s end at)
          step x y z lt i r =
              (r.0, rw (items-step depth s end at lt) (i.items_are c' u' (items_at depth s end (after_length s at)) (rw (← i.ends) r.1)))

  module_is : (depth : ℕ) → Modules depth
  unfolding scan_module
  module_is zero next at c u a c' u' E h e = absurd (no e)
    where
      no : Fault 3 at ≡ Past a c' u' → ⊥
      no e = let z : ◌≡◌ {A = ℕ} 0 1 = cc in omega arith
  module_is (suc depth) next at c u a c' u' E h e =
      let m = walked_on (scan_name s next (at + 4)) e in
      let r = formed-read s B next E is_identifier 5 (at + 4) m.mid m.first in
      let i = siblings-are depth (module_is depth) next E (next - m.mid) m.mid (c + 1) u a c' u' (omega arith) r.within m.second in
      (i.0, inner-is m.mid r i.1)
    where
      inner-is : (mid : ℕ) → Read s next IsName string (after s) (text s) (at + 4) mid → ItemsAre s depth next mid (c + 1) u c' u' (items_at depth s next mid)
          → ModuleIs s (suc depth) next at c u c' u' (items_at depth s next (after s (at + 4)))
      inner-is mid r i =
          let w = r.within in
          let q = r.ends in
          let st : Stands s (at + 4) (string (text s (at + 4))) (after s (at + 4)) = rw r.ends at r.stands in
          let i' : ItemsAre s depth next (after s (at + 4)) (c + 1) u c' u' (items_at depth s next (after s (at + 4))) = rw r.ends at i in
          let len = stands-length s (string (text s (at + 4))) (at + 4) (after s (at + 4)) st (omega arith) (omega arith) in
          let z : after s (at + 4) ≡ at + 4 + length (string (text s (at + 4))) = omega (arith, len) in
          let d : suc depth - 1 ≡ depth = omega arith in
          record {
            stands = stands-then s (string (text s (at + 4))) (items (items_at depth s next (after s (at + 4)))) (at + 4) (after s (at + 4)) next st i'.stands;
            name = r.formed;
            deep = omega arith;
            formed = rw d i'.formed;
            marked = rw (← z) i'.marked;
            count = i'.count;
            uses = i'.uses;
          }

  -- all the items from at to end
  pub items-are-read : (depth end at c u a c' u' : ℕ) → end ≤ length s → at ≤ end → scan_items depth s end at c u ≡ Past a c' u' → (a ≡ end) × ItemsAre s depth end at c u c' u' (items_at depth s end at)
  items-are-read depth end at c u a c' u' E h e = siblings-are depth (module_is depth) end E (end - at) at c u a c' u' (omega arith) h e
