-- What the encoder writes of items in form is read, and gives the items back. Assumes nothing.
use Prim.Native.Nat.{ℕ, zero, suc, ◌+◌, ◌-◌, ◌/◌, ◌%◌, ◌≤◌, ◌<◌}
use native.Mathlib.Omega.{arith}
use Rattle.std.specs.Prelude.{◌≡◌}
use Rattle.std.proofs.Math.Path.{refl, sym, ap}
use Rattle.std.proofs.Common.{◌∙◌}
use mathlib.Core.List.{List, [], ◌∷◌, ◌++◌, append_assoc}
use Rattle.std.proofs.Math.ListN.{length, drop, length-append}
use borrow.Author.Tests.{lt-ltb, le-leb, eq-eqb, ne_eqb}
use Rattle.names.specs.Identifier.{is_identifier}
use Rattle.bundle.specs.Bundle.{Text, Element, Head, Items, none, named, use_of, module_of, ignored}
use Rattle.bundle.specs.Limits.{item_limit, most_uses, segment_limit, element_limit, use_kind, module_kind, ignored_kind}
use Rattle.bundle.specs.Encode.{two, string, sized, element, encode_head, items}
use Rattle.bundle.specs.Encode.{counted as count-list}
use Rattle.bundle.specs.Scan.{byte, word, text, version_of, and_then, scan_name, scan_field, scan_list, scan_use, scan_length, scan_mark, uses_after, scan_head, scan_body, scan_end, scan_item, scan_items}
use Rattle.bundle.specs.Decode.{counted, after, after_element, after_length, after_list, element_at, head_at, item_at, items_at}
use Rattle.bundle.specs.Walks.{goes, siblings-next, siblings-done, enters, leaf_past}
use Rattle.bundle.specs.Access.{equal-heads, item_module, item_use, item-ignored, item-named, inside_of, items-end, items-step}
use Rattle.bundle.specs.Form.{Every, IsName, FormedElement, Formed, Marked, item_count, use_count}
use Rattle.bundle.specs.Stand.{at_byte, at-append}
use Rattle.bundle.specs.Complete.{formed_writ, element_writ, count_writ}
use Rattle.bundle.specs.declared.Width.TheVariants.{Byte}
use Rattle.bundle.specs.Results.{Next}
use Rattle.bundle.specs.Results.{Past}
use Rattle.bundle.specs.declared.Field.TheVariants.{Element as ElementField}

module _ (s : List ℕ) where
  -- an item's head, written at `at`, with X after its visibility; n is where the item ends
  pub record HeadWrit (k v : ℕ) (X : List ℕ) (at n : ℕ) (rest : List ℕ) : Type 0 where
    pub ends : after_length s at ≡ n
    pub long : n ≡ at + 4 + length X
    pub size : n ≡ at + length (sized (k ∷ v ∷ X))
    pub kind : byte s (at + 2) ≡ k
    pub visibility : byte s (at + 3) ≡ v
    pub body : drop (at + 4) s ≡ X ++ rest
    pub after_it : drop n s ≡ rest

  pub head_writ : (k v : ℕ) (X : List ℕ) (at : ℕ) (rest : List ℕ) → drop at s ≡ sized (k ∷ v ∷ X) ++ rest → HeadWrit k v X at (at + 4 + length X) rest
  unfolding sized two
  head_writ k v X at rest e =
      let n = length (k ∷ v ∷ X) in
      let a = at_byte s at (n / 256) ((n % 256) ∷ (k ∷ v ∷ (X ++ rest))) e in
      let b = at_byte s (at + 1) (n % 256) (k ∷ v ∷ (X ++ rest)) a.1 in
      let z2 : at + 1 + 1 ≡ at + 2 = omega arith in
      let c = at_byte s (at + 2) k (v ∷ (X ++ rest)) (rw z2 at b.1) in
      let z3 : at + 2 + 1 ≡ at + 3 = omega arith in
      let d = at_byte s (at + 3) v (X ++ rest) (rw z3 at c.1) in
      let z4 : at + 3 + 1 ≡ at + 4 = omega arith in
      let f : drop (at + 4) s ≡ X ++ rest = rw z4 at d.1 in
      let x = a.0 in
      let y = b.0 in
      record {
        ends = omega arith;
        long = refl;
        size = omega arith;
        kind = c.0;
        visibility = d.0;
        body = f;
        after_it = at-append s (at + 4) X rest f;
      }

  pub head-scans : (k v : ℕ) (X : List ℕ) (end at n count uses : ℕ) (rest : List ℕ) → HeadWrit k v X at n rest → n ≤ end → 1 ≤ k → k ≤ 6 → v ≤ 1 → count < item_limit → uses_after s at uses ≤ most_uses (version_of s)
      → scan_head s end at count uses ≡ Next n
  unfolding scan_head scan_length scan_mark
  head-scans k v X end at n count uses rest w h k1 k6 v1 hc hu =
      let e = w.ends in
      let l = w.long in
      let kb = w.kind in
      let vb = w.visibility in
      let a1 : at + 2 ≤ end = omega arith in
      let a2 : word s at ≤ end - (at + 2) = omega arith in
      let b1 : at + 2 < at + 2 + word s at = omega arith in
      let b2 : 1 ≤ byte s (at + 2) = omega arith in
      let b3 : byte s (at + 2) ≤ 6 = omega arith in
      let z3 : at + 2 + 1 ≡ at + 3 = omega arith in
      let c1 : at + 3 < at + 2 + word s at = omega arith in
      let c2 : 0 ≤ byte s (at + 3) = omega arith in
      let c3 : byte s (at + 3) ≤ 1 = omega arith in
      rw (le-leb (at + 2) end a1, le-leb (word s at) (end - (at + 2)) a2)
      (rw (lt-ltb (at + 2) (at + 2 + word s at) b1, le-leb 1 (byte s (at + 2)) b2, le-leb (byte s (at + 2)) 6 b3, z3)
      (rw (lt-ltb (at + 3) (at + 2 + word s at) c1, le-leb 0 (byte s (at + 3)) c2, le-leb (byte s (at + 3)) 1 c3)
      (rw (lt-ltb count item_limit hc, le-leb (uses_after s at uses) (most_uses (version_of s)) hu) (ap Next e))))

  -- items that are written and read
  pub record ItemsWrit (depth end at c u : ℕ) (x : Items) : Type 0 where
    pub scans : scan_items depth s end at c u ≡ Past end (c + item_count x) (u + use_count x)
    pub gets : items_at depth s end at ≡ x

  -- a first item that is read, and the items after it
  then-rest : (depth end at c u n y z : ℕ) (x rest : Items) → at < end → after_length s at ≡ n → scan_item depth s end at c u ≡ Past n y z
      → item_at (inside_of depth s) s at rest ≡ x → y + item_count rest ≡ c + item_count x → z + use_count rest ≡ u + use_count x
      → ItemsWrit depth end n y z rest → ItemsWrit depth end at c u x
  then-rest depth end at c u n y z x rest lt e h g hy hz r =
      record {
        scans = siblings-next (scan_item depth s end) end (goes depth s end) at c u n y z lt h ∙ (r.scans ∙ rw (hy, hz));
        gets = items-step depth s end at lt ∙ rw (e, r.gets) g;
      }

  -- the body of an item that is no module
  pub leaf_scans : (n at : ℕ) → scan_body s n at ≡ Next n → and_then (scan_body s n at) (scan_end n) ≡ Next n
  unfolding scan_end
  leaf_scans n at e = rw (e, eq-eqb n n refl)

  name_body : (n at : ℕ) → (byte s (at + 2) ≡ ignored_kind → ⊥) → (byte s (at + 2) ≡ use_kind → ⊥) → scan_name s n (at + 4) ≡ Next n → scan_body s n at ≡ Next n
  unfolding scan_body
  name_body n at n6 n3 e = rw (ne_eqb (byte s (at + 2)) ignored_kind n6, ne_eqb (byte s (at + 2)) use_kind n3) e

  pub use_body : (n at : ℕ) → byte s (at + 2) ≡ use_kind → scan_use s n (at + 4) ≡ Next n → scan_body s n at ≡ Next n
  unfolding scan_body
  use_body n at k e =
      let n6 : byte s (at + 2) ≡ ignored_kind → ⊥ = λ (q : byte s (at + 2) ≡ ignored_kind). omega arith in
      rw (ne_eqb (byte s (at + 2)) ignored_kind n6, eq-eqb (byte s (at + 2)) use_kind k) e

  pub ignored-body : (n at : ℕ) → byte s (at + 2) ≡ ignored_kind → n ≡ at + 4 → scan_body s n at ≡ Next n
  unfolding scan_body
  ignored-body n at k e = rw (eq-eqb (byte s (at + 2)) ignored_kind k) (ap Next (sym e))

  pub use_scans : (n at : ℕ) (segments : List Text) (elements : List Element) (rest : List ℕ)
      → length segments ≤ segment_limit → Every IsName segments → length elements ≤ element_limit → Every FormedElement elements
      → drop at s ≡ (count-list string segments ++ count-list element elements) ++ rest → at + length (count-list string segments ++ count-list element elements) ≡ n
      → (scan_use s n at ≡ Next n) × (counted (after s) (text s) s at ≡ segments) × (counted (after_element s) (element_at s) s (after_list (after s) s at) ≡ elements)
  unfolding scan_use scan_list scan_field count-list
  use_scans n at segments elements rest ls es le ee e h =
      let X = count-list string segments in
      let Y = count-list element elements in
      let len : length (X ++ Y) ≡ length X + length Y = length-append X Y in
      let e1 : drop at s ≡ X ++ (Y ++ rest) = e ∙ append_assoc X Y rest in
      let a = count_writ s n Byte IsName string (after s) (text s) (scan_name s n) (formed_writ s n is_identifier 5) 0 segment_limit segments at (Y ++ rest) (omega arith) ls es e1 (omega arith) in
      let e2 : drop (at + length X) s ≡ Y ++ rest = at-append s at X (Y ++ rest) e1 in
      let b = count_writ s n Byte FormedElement element (after_element s) (element_at s) (scan_field ElementField s n) (element_writ s n) 0 element_limit elements (at + length X) rest (omega arith) le ee e2 (omega arith) in
      let z : at + length X + length Y ≡ n = omega arith in
      (rw a.scans (b.scans ∙ ap Next z), a.gets, rw a.skips b.gets)

  inside-less : (depth : ℕ) → 0 < depth → inside_of depth s ≡ items_at (depth - 1) s
  inside-less zero h = absurd (omega arith)
  inside-less (suc depth) h = let z : suc depth - 1 ≡ depth = omega arith in rw z

  pub items_writ : (x : Items) (depth end at c u : ℕ) (rest : List ℕ) → Formed x depth → Marked x at → drop at s ≡ items x ++ rest → at + length (items x) ≡ end
      → c + item_count x ≤ item_limit → u + use_count x ≤ most_uses (version_of s) → ItemsWrit depth end at c u x
  unfolding items Formed Marked item_count use_count
  items_writ none depth end at c u rest f m e h hc hu =
      let z : at ≡ end = omega arith in
      let q : end ≤ at = omega arith in
      let c0 : c ≡ c + 0 = omega arith in
      let u0 : u ≡ u + 0 = omega arith in
      record { scans = siblings-done (scan_item depth s end) end (goes depth s end) at c u q ∙ rw (← c0, ← u0, z); gets = items-end depth s end at q }
  items_writ (named head r) depth end at c u rest f mk e h hc hu =
      let X = string head.name in
      let S = sized (encode_head head) in
      let n = at + 4 + length X in
      let w = head_writ head.kind head.visibility X at (items r ++ rest) (e ∙ append_assoc S (items r) rest) in
      let len : length (S ++ items r) ≡ length S + length (items r) = length-append S (items r) in
      let sz = w.size in
      let kb = w.kind in
      let vb = w.visibility in
      let n5 : byte s (at + 2) ≡ module_kind → ⊥ = λ (q : byte s (at + 2) ≡ module_kind). omega (arith, f.0.kind.1.0) in
      let n3 : byte s (at + 2) ≡ use_kind → ⊥ = λ (q : byte s (at + 2) ≡ use_kind). f.0.kind.1.1 (sym kb ∙ q) in
      let n6 : byte s (at + 2) ≡ ignored_kind → ⊥ = λ (q : byte s (at + 2) ≡ ignored_kind). omega (arith, f.0.kind.1.0) in
      let ua : uses_after s at u ≡ u = rw (ne_eqb (byte s (at + 2)) use_kind n3) in
      let hd = head-scans head.kind head.visibility X end at n c u (items r ++ rest) w (omega arith) f.0.kind.0 (omega (arith, f.0.kind.1.0)) f.0.visibility (omega arith) (rw ua (omega arith)) in
      let t = formed_writ s n is_identifier 5 head.name (at + 4) (items r ++ rest) f.0.name w.body (omega arith) in
      let body : scan_body s n at ≡ Next n = name_body n at n6 n3 t.scans in
      let one : scan_item depth s end at c u ≡ Past n (c + 1) u = sym (leaf_past depth s end at c u n hd n n5 (leaf_scans n at body)) ∙ rw ua in
      let g : item_at (inside_of depth s) s at r ≡ named head r = item-named (inside_of depth s) s at r n5 n3 n6 ∙ ap (λ (y : Head). named y r) (equal-heads (head_at s at) head kb (sym mk.0) vb t.gets) in
      then-rest depth end at c u n (c + 1) u (named head r) r (omega arith) w.ends one g (omega arith) refl
      (items_writ r depth end n (c + 1) u rest f.1 (rw (← sz) at mk.1) w.after_it (omega arith) (omega arith) hu)
  items_writ (use_of m v segments elements r) depth end at c u rest f mk e h hc hu =
      let X = count-list string segments ++ count-list element elements in
      let S = sized (use_kind ∷ v ∷ X) in
      let n = at + 4 + length X in
      let w = head_writ use_kind v X at (items r ++ rest) (e ∙ append_assoc S (items r) rest) in
      let len : length (S ++ items r) ≡ length S + length (items r) = length-append S (items r) in
      let sz = w.size in
      let kb = w.kind in
      let vb = w.visibility in
      let n5 : byte s (at + 2) ≡ module_kind → ⊥ = λ (q : byte s (at + 2) ≡ module_kind). omega arith in
      let ua : uses_after s at u ≡ u + 1 = rw (eq-eqb (byte s (at + 2)) use_kind kb) in
      let hd = head-scans use_kind v X end at n c u (items r ++ rest) w (omega arith) (omega arith) (omega arith) f.0 (omega arith) (rw ua (omega arith)) in
      let t = use_scans n (at + 4) segments elements (items r ++ rest) f.1.0.0 f.1.0.1 f.1.1.0.0 f.1.1.0.1 w.body refl in
      let body : scan_body s n at ≡ Next n = use_body n at kb t.0 in
      let one : scan_item depth s end at c u ≡ Past n (c + 1) (u + 1) = sym (leaf_past depth s end at c u n hd n n5 (leaf_scans n at body)) ∙ rw ua in
      let g : item_at (inside_of depth s) s at r ≡ use_of m v segments elements r = item_use (inside_of depth s) s at r n5 kb ∙ rw (vb, t.1, t.2, mk.0) in
      then-rest depth end at c u n (c + 1) (u + 1) (use_of m v segments elements r) r (omega arith) w.ends one g (omega arith) (omega arith)
      (items_writ r depth end n (c + 1) (u + 1) rest f.1.1.1 (rw (← sz) at mk.1) w.after_it (omega arith) (omega arith) (omega arith))
  items_writ (module_of m v name inner r) depth end at c u rest f mk e h hc hu =
      let N = string name in
      let X = N ++ items inner in
      let S = sized (module_kind ∷ v ∷ X) in
      let n = at + 4 + length X in
      let w = head_writ module_kind v X at (items r ++ rest) (e ∙ append_assoc S (items r) rest) in
      let len : length (S ++ items r) ≡ length S + length (items r) = length-append S (items r) in
      let lex : length X ≡ length N + length (items inner) = length-append N (items inner) in
      let sz = w.size in
      let kb = w.kind in
      let vb = w.visibility in
      let n3 : byte s (at + 2) ≡ use_kind → ⊥ = λ (q : byte s (at + 2) ≡ use_kind). omega arith in
      let ua : uses_after s at u ≡ u = rw (ne_eqb (byte s (at + 2)) use_kind n3) in
      let hd = head-scans module_kind v X end at n c u (items r ++ rest) w (omega arith) (omega arith) (omega arith) f.0 (omega arith) (rw ua (omega arith)) in
      let e1 : drop (at + 4) s ≡ N ++ (items inner ++ (items r ++ rest)) = w.body ∙ append_assoc N (items inner) (items r ++ rest) in
      let t = formed_writ s n is_identifier 5 name (at + 4) (items inner ++ (items r ++ rest)) f.1.0 e1 (omega arith) in
      let e2 : drop (at + 4 + length N) s ≡ items inner ++ (items r ++ rest) = at-append s (at + 4) N (items inner ++ (items r ++ rest)) e1 in
      let pos : 0 < depth = f.1.1.0.0 in
      let i = items_writ inner (depth - 1) n (at + 4 + length N) (c + 1) u (items r ++ rest) f.1.1.0.1 mk.1.0 e2 (omega arith) (omega arith) (omega arith) in
      let y = c + 1 + item_count inner in
      let z = u + use_count inner in
      let one : scan_item depth s end at c u ≡ Past n y z =
      sym (enters depth s end at c u n hd (at + 4 + length N) kb (λ (q : depth ≡ 0). omega arith) t.scans) ∙ i.scans in
      let inn : inside_of depth s (after_length s at) (after s (at + 4)) ≡ inner =
      ap (λ (F : ℕ → ℕ → Items). F (after_length s at) (after s (at + 4))) (inside-less depth pos) ∙ rw (w.ends, t.skips) i.gets in
      let g : item_at (inside_of depth s) s at r ≡ module_of m v name inner r = item_module (inside_of depth s) s at r kb ∙ rw (vb, t.gets, inn, mk.0) in
      then-rest depth end at c u n y z (module_of m v name inner r) r (omega arith) w.ends one g (omega arith) (omega arith)
      (items_writ r depth end n y z rest f.1.1.1 (rw (← sz) at mk.1.1) w.after_it (omega arith) (omega arith) (omega arith))
  items_writ (ignored m v r) depth end at c u rest f mk e h hc hu =
      let S = sized (ignored_kind ∷ v ∷ []) in
      let n = at + 4 + 0 in
      let w = head_writ ignored_kind v [] at (items r ++ rest) (e ∙ append_assoc S (items r) rest) in
      let len : length (S ++ items r) ≡ length S + length (items r) = length-append S (items r) in
      let sz = w.size in
      let kb = w.kind in
      let vb = w.visibility in
      let n5 : byte s (at + 2) ≡ module_kind → ⊥ = λ (q : byte s (at + 2) ≡ module_kind). omega arith in
      let n3 : byte s (at + 2) ≡ use_kind → ⊥ = λ (q : byte s (at + 2) ≡ use_kind). omega arith in
      let ua : uses_after s at u ≡ u = rw (ne_eqb (byte s (at + 2)) use_kind n3) in
      let hd = head-scans ignored_kind v [] end at n c u (items r ++ rest) w (omega arith) (omega arith) (omega arith) f.0 (omega arith) (rw ua (omega arith)) in
      let body : scan_body s n at ≡ Next n = ignored-body n at kb (omega arith) in
      let one : scan_item depth s end at c u ≡ Past n (c + 1) u = sym (leaf_past depth s end at c u n hd n n5 (leaf_scans n at body)) ∙ rw ua in
      let g : item_at (inside_of depth s) s at r ≡ ignored m v r = item-ignored (inside_of depth s) s at r n5 n3 kb ∙ rw (vb, mk.0) in
      then-rest depth end at c u n (c + 1) u (ignored m v r) r (omega arith) w.ends one g (omega arith) refl
      (items_writ r depth end n (c + 1) u rest f.1 (rw (← sz) at mk.1) w.after_it (omega arith) (omega arith) hu)
