-- Laws of the form of a use. Assumes nothing.
use Rattle.std.specs.Prelude.{ℕ, suc, min, ◌+◌, ◌*◌, ◌-◌, ◌≤◌, ◌<◌, ◌≡◌, Bool, true, false, cond, ◌&&◌, ◌||◌, List, [], eqb, length, take, drop, refl, Ok}
use Rattle.std.proofs.Common.{arith, ap, sym, ◌∙◌, length-drop, drop_of_length-le, take_all}
use Rattle.std.proofs.Math.Decide.{dec_le, dec_lt}
use Rattle.std.proofs.Math.ListN.{get_or}
use borrow.Author.Tests.{ne_eqb, lt-ltb, le-ltb, le-leb, lt-leb}
use Rattle.names.specs.Identifier.{is_identifier}
use Rattle.names.specs.Keywords.{is_main}
use Rattle.scope_tree.specs.Step.{any_main}
use Rattle.scope_tree.specs.Form.{string, after_string, after_strings, after_element, after_elements, elements_from, string_fault, names_fault, elements_fault}
use Rattle.refusal.specs.declared.Cause.{Cause}
use Rattle.refusal.specs.Numbers.{number_of}
use Rattle.scope_tree.specs.Told.{number-some}
use Rattle.scope_tree.specs.Forms.{Checked}

-- the part between the clamped ends is the string
pub string-part : (s : List ℕ) (at a e : ℕ) → a ≡ min (at + 1) (length s) → e ≡ min (after_string s at) (length s) → take (e - a) (drop a s) ≡ string s at
unfolding string
string-part s at a e p q = go (dec_le (at + 1) (length s)) (dec_le (after_string s at) (length s))
  where
    go : Dec (at + 1 ≤ length s) → Dec (after_string s at ≤ length s) → take (e - a) (drop a s) ≡ take (get_or s at 0) (drop (at + 1) s)
    go (yes h) (yes k) =
        let x : a ≡ at + 1 = omega arith in
        let y : e - a ≡ get_or s at 0 = omega arith in
        rw (y, x)
    go (yes h) (no k) =
        let x : a ≡ at + 1 = omega arith in
        let l : length (drop (at + 1) s) ≤ e - (at + 1) = rw length-drop (omega arith) in
        let m : length (drop (at + 1) s) ≤ get_or s at 0 = rw length-drop (omega arith) in
        rw x (take_all (e - (at + 1)) (drop (at + 1) s) l ∙ sym (take_all (get_or s at 0) (drop (at + 1) s) m))
    go (no h) k =
        let x : length s ≤ a = omega arith in
        let y : length s ≤ at + 1 = omega arith in
        rw (drop_of_length-le s x, drop_of_length-le s y) (take_all (e - a) [] (omega arith) ∙ sym (take_all (get_or s at 0) [] (omega arith)))

-- STRING FAULTS
module _ (o : Bool) (s : List ℕ) (at : ℕ) where
  pub form-cut : length s < after_string s at → string_fault o s at ≡ 1
  unfolding string_fault
  form-cut h = go (dec_lt at (length s))
    where
      go : Dec (at < length s) → string_fault o s at ≡ 1
      go (yes l) = rw (lt-ltb at (length s) l, lt-leb (after_string s at) (length s) h)
      go (no l) = rw (le-ltb at (length s) (omega arith))

  pub form-whole : after_string s at ≤ length s → string_fault o s at ≡ cond ((o && eqb (get_or s at 0) 0) || is_identifier (string s at)) 0 5
  unfolding string_fault
  form-whole h = rw (lt-ltb at (length s) (omega arith), le-leb (after_string s at) (length s) h)

-- ONE MORE
module _ (s : List ℕ) (at : ℕ) where
  abbrev less : ℕ → ℕ → Type 0
  less i n = i < n

  -- n - i at a turn is one more than at the next
  turn : (i n : ℕ) → i < n → n - i ≡ suc (n - (i + 1))
  turn i n h = omega arith

  pub names-bad : (i n f : ℕ) → i < n → f ≡ string_fault false s at → (f ≡ 0 → ⊥) → f ≡ names_fault s (n - i) at
  unfolding names_fault
  names-bad i n f h q z = rw (turn i n h, ← q, ne_eqb f 0 z)

  pub names-good : (i n f : ℕ) → i < n → f ≡ string_fault false s at → f ≡ 0 → names_fault s (n - i) at ≡ names_fault s (n - (i + 1)) (after_string s at)
  unfolding names_fault
  names-good i n f h q z = rw (turn i n h, ← q, z)

  pub strings_more : (i n : ℕ) → i < n → after_strings s (n - i) at ≡ after_strings s (n - (i + 1)) (after_string s at)
  unfolding after_strings
  strings_more i n h = rw (turn i n h)

  pub elements-bad : (i n f : ℕ) → i < n → f ≡ string_fault false s at → (f ≡ 0 → ⊥) → f ≡ elements_fault s (n - i) at
  unfolding elements_fault
  elements-bad i n f h q z = rw (turn i n h, ← q, ne_eqb f 0 z)

  pub elements-bad_2 : (i n f g : ℕ) → i < n → f ≡ string_fault false s at → f ≡ 0 → g ≡ string_fault true s (after_string s at) → (g ≡ 0 → ⊥) → g ≡ elements_fault s (n - i) at
  unfolding elements_fault
  elements-bad_2 i n f g h q z r w = rw (turn i n h, ← q, z, ← r, ne_eqb g 0 w)

  pub elements-good : (i n f g : ℕ) → i < n → f ≡ string_fault false s at → f ≡ 0 → g ≡ string_fault true s (after_string s at) → g ≡ 0
      → elements_fault s (n - i) at ≡ elements_fault s (n - (i + 1)) (after_element s at)
  unfolding elements_fault
  elements-good i n f g h q z r w = rw (turn i n h, ← q, z, ← r, w)

  pub after_more : (i n : ℕ) → i < n → after_elements s (n - i) at ≡ after_elements s (n - (i + 1)) (after_element s at)
  unfolding after_elements
  after_more i n h = rw (turn i n h)

  pub main-found : (i n : ℕ) {b : Bool} → i < n → b ≡ is_main (string s (after_string s at)) → b ≡ true → any_main (elements_from s (n - i) at) ≡ true
  unfolding any_main elements_from
  main-found i n h q z = rw (turn i n h, ← q, z)

  pub main-more : (i n : ℕ) {b : Bool} → i < n → b ≡ is_main (string s (after_string s at)) → b ≡ false → any_main (elements_from s (n - i) at) ≡ any_main (elements_from s (n - (i + 1)) (after_element s at))
  unfolding any_main elements_from
  main-more i n h q z = rw (turn i n h, ← q, z)

-- NONE LEFT
module _ (s : List ℕ) (at i n : ℕ) (h : n ≤ i) where
  done : n - i ≡ 0
  done = omega arith

  pub names-none : names_fault s (n - i) at ≡ 0
  unfolding names_fault
  names-none = rw done

  pub strings_none : after_strings s (n - i) at ≡ at
  unfolding after_strings
  strings_none = rw done

  pub elements-none : elements_fault s (n - i) at ≡ 0
  unfolding elements_fault
  elements-none = rw done

  pub after_none : after_elements s (n - i) at ≡ at
  unfolding after_elements
  after_none = rw done

  pub main-none : any_main (elements_from s (n - i) at) ≡ false
  unfolding any_main elements_from
  main-none = rw done

-- AS THE CODE HAS THEM

-- LOOPS: at the turn i of n, p is the place of string (or element) i
module _ (s : List ℕ) (at n : ℕ) where
  pub record At_name (p i : ℕ) : Type 0 where
    pub within : i ≤ n
    pub below : p ≤ at + 256 * i
    pub fault : names_fault s n at ≡ names_fault s (n - i) p
    pub after : after_strings s n at ≡ after_strings s (n - i) p

  pub record At_element (p i : ℕ) : Type 0 where
    pub within : i ≤ n
    pub below : p ≤ at + 512 * i
    pub fault : elements_fault s n at ≡ elements_fault s (n - i) p
    pub after : after_elements s n at ≡ after_elements s (n - i) p

  -- the same without faults: the elements from there on
  pub record From_element (p i : ℕ) : Type 0 where
    pub within : i ≤ n
    pub below : p ≤ at + 512 * i
    pub main : any_main (elements_from s n at) ≡ any_main (elements_from s (n - i) p)

  zero_turn : n ≡ n - 0
  zero_turn = omega arith

  pub name-start : At_name at 0
  name-start = record { within = omega arith; below = omega arith; fault = ap (λ (m : ℕ). names_fault s m at) zero_turn; after = ap (λ (m : ℕ). after_strings s m at) zero_turn }

  pub element-start : At_element at 0
  element-start = record { within = omega arith; below = omega arith; fault = ap (λ (m : ℕ). elements_fault s m at) zero_turn; after = ap (λ (m : ℕ). after_elements s m at) zero_turn }

  pub from_start : From_element at 0
  from_start = record { within = omega arith; below = omega arith; main = ap (λ (m : ℕ). any_main (elements_from s m at)) zero_turn }

  module _ {p i : ℕ} where
    module _ (inv : At_name p i) where
      pub name-turn : i < n → {q : ℕ} → Checked (string_fault false s p) (after_string s p) (p + 256) (Ok q) → At_name q (i + 1)
      name-turn h {q} c =
          record {
            within = omega arith;
            below = omega (arith, inv.below, c.1.1);
            fault = rw c.1.0 (inv.fault ∙ names-good s p i n 0 h (sym c.0) refl);
            after = rw c.1.0 (inv.after ∙ strings_more s p i n h);
          }

      pub name-stop : i < n → (e : Cause) → string_fault false s p ≡ number_of e → names_fault s n at ≡ number_of e
      name-stop h e c = inv.fault ∙ sym (names-bad s p i n (number_of e) h (sym c) (number-some e))

      pub name-end : n ≤ i → Checked (names_fault s n at) (after_strings s n at) (at + 256 * n) (Ok p)
      name-end h = (inv.fault ∙ names-none s p i n h, (sym (inv.after ∙ strings_none s p i n h), omega (arith, inv.below, inv.within)))

    module _ (inv : At_element p i) where
      pub element-turn : i < n → {a : ℕ} → Checked (string_fault false s p) (after_string s p) (p + 256) (Ok a) → {q : ℕ} → Checked (string_fault true s a) (after_string s a) (a + 256) (Ok q) → At_element q (i + 1)
      element-turn h {a} c {q} d =
          let v : q ≡ after_element s p = d.1.0 ∙ ap (λ (x : ℕ). after_string s x) c.1.0 in
          record {
            within = omega arith;
            below = omega (arith, inv.below, c.1.1, d.1.1);
            fault = rw v (inv.fault ∙ elements-good s p i n 0 0 h (sym c.0) refl (sym d.0 ∙ ap (λ (x : ℕ). string_fault true s x) c.1.0) refl);
            after = rw v (inv.after ∙ after_more s p i n h);
          }

      pub element-stop : i < n → (e : Cause) → string_fault false s p ≡ number_of e → elements_fault s n at ≡ number_of e
      element-stop h e c = inv.fault ∙ sym (elements-bad s p i n (number_of e) h (sym c) (number-some e))

      pub element-stop_2 : i < n → {a : ℕ} → Checked (string_fault false s p) (after_string s p) (p + 256) (Ok a) → (e : Cause) → string_fault true s a ≡ number_of e → elements_fault s n at ≡ number_of e
      element-stop_2 h c e d = inv.fault ∙ sym (elements-bad_2 s p i n 0 (number_of e) h (sym c.0) refl (sym d ∙ ap (λ (x : ℕ). string_fault true s x) c.1.0) (number-some e))

      pub element-end : n ≤ i → Checked (elements_fault s n at) (after_elements s n at) (at + 512 * n) (Ok p)
      element-end h = (inv.fault ∙ elements-none s p i n h, (sym (inv.after ∙ after_none s p i n h), omega (arith, inv.below, inv.within)))

    module _ (inv : From_element p i) where
      pub from-turn : i < n → {a : ℕ} → (a ≡ after_string s p) × (a ≤ p + 256) → {l : List ℕ} → l ≡ string s a → {b : Bool} → b ≡ is_main l → b ≡ false
          → {q : ℕ} → (q ≡ after_string s a) × (q ≤ a + 256) → From_element q (i + 1)
      from-turn h u t {b} e z {q} w =
          let v : q ≡ after_element s p = w.0 ∙ ap (λ (x : ℕ). after_string s x) u.0 in
          record {
            within = omega arith;
            below = omega (arith, inv.below, u.1, w.1);
            main = rw v (inv.main ∙ main-more s p i n {b = b} h (e ∙ ap is_main (t ∙ ap (string s) u.0)) z);
          }

      pub from-stop : i < n → {a : ℕ} → (a ≡ after_string s p) × (a ≤ p + 256) → {l : List ℕ} → l ≡ string s a → {b : Bool} → b ≡ is_main l → b ≡ true → true ≡ any_main (elements_from s n at)
      from-stop h u t {b} e z = sym (inv.main ∙ main-found s p i n {b = b} h (e ∙ ap is_main (t ∙ ap (string s) u.0)) z)

      pub from_end : n ≤ i → false ≡ any_main (elements_from s n at)
      from_end h = sym (inv.main ∙ main-none s p i n h)

-- the loops' laws, for the tactics
pub ruleset name_steps = (name-start, name-turn, name-stop, name-end)

pub ruleset element_steps = (element-start, element-turn, element-stop, element-stop_2, element-end)

pub ruleset main_steps = (from_start, from-turn, from-stop, from_end)
