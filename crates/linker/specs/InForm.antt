-- The calls of a program are in form: none is refused for its arguments, so step 6 ends at a number from 40 to 51. Assumes nothing.
use Prim.Native.Nat.{ℕ, ◌+◌, ◌<◌, ◌≤◌}
use Rattle.std.proofs.Common.{arith, sym, subst, ◌∙◌, take_at, drop_at, lt-ltb, le-ltb, le-leb, eq-eqb, ne_eqb}
use Rattle.std.specs.Prelude.{Bool, ◌||◌, ◌&&◌, eqb, ltb, leb, take, drop}
use Rattle.std.proofs.Math.Bool.{true, false, cond}
use Rattle.std.proofs.Math.Path.{◌≡◌, refl, ap}
use mathlib.Core.List.{List, [], ◌∷◌, ◌++◌, append_assoc, append-nil}
use Rattle.std.proofs.Math.ListN.{length, get_or, length-append}
use Rattle.std.proofs.Math.Seq.{get_or_at}
use Rattle.names.specs.declared.Name.{Name}
use Rattle.names.specs.Identifier.{is_identifier}
use Rattle.names.specs.Packed.{packed}
use Rattle.bundle.specs.Bundle.{Text, Element, Items, none, named, use_of, module_of, ignored, Bundle}
use Rattle.bundle.specs.Encode.{string, joined, counted, element}
use Rattle.bundle.specs.Form.{Every, IsName, FormedElement}
use Rattle.bundle.specs.Stand.{Bytes}
use Rattle.bundle.specs.Read.{value, read}
use Rattle.bundle.specs.Theorems.{sound}
use Rattle.scope_tree.specs.Step.{Call, enter, alias, enum, function, bad}
use Rattle.scope_tree.specs.Flat.{flat, first_flat}
use Rattle.scope_tree.specs.Form.{exits, inserts_alias, inserts_enum, inserts_function, resolves_use, or_else, after_string, after_element, string_fault, names_fault, elements_fault, after_strings, after_elements, rest_fault, use_fault, use_call, call_of}
use Rattle.scope_tree.specs.Form as form
use Rattle.scopes.specs.Meets.{declares}
use Rattle.assembly.specs.Paths.{ImagePath}
use Rattle.assembly.specs.ImageForm.{ImageFormed, assembled-formed}
use Rattle.assembly.specs.Theorems.{Program}
use Rattle.scope_walk.specs.Scopes.{Asked, asked, is_public, use_form, scope_calls}
use Rattle.linker.specs.Theorems.{Ends}
use Rattle.linker.specs.Refusals.{RefusedBy, by_form, by_rule, by_limit, refused-by}

-- A STRING at a place
record At (s : List ℕ) (at : ℕ) (a : List ℕ) : Type 0 where
  counts : get_or s at 0 ≡ length a
  bytes : form.string s at ≡ a
  inside : at + 1 + length a ≤ length s

string-length : (a : Text) → length (string a) ≡ 1 + length a
unfolding string
string-length a = omega arith

string-at : (s pre : List ℕ) (a : Text) (post : List ℕ) (at : ℕ) → s ≡ pre ++ (string a ++ post) → length pre ≡ at → At s at a
unfolding string form.string
string-at s pre a post at e n =
    let c : get_or s at 0 ≡ length a = ap (λ (l : List ℕ). get_or l at 0) e ∙ get_or_at pre (length a) (a ++ post) 0 at n in
    let m : length (pre ++ (length a ∷ [])) ≡ at + 1 = omega (arith, length-append pre (length a ∷ []), n) in
    let d : drop (at + 1) s ≡ a ++ post = ap (drop (at + 1)) (e ∙ sym (append_assoc pre (length a ∷ []) (a ++ post))) ∙ drop_at (pre ++ (length a ∷ [])) (a ++ post) (at + 1) m in
    record {
      counts = c;
      bytes = ap (λ (k : ℕ). take k (drop (at + 1) s)) c ∙ (ap (take (length a)) d ∙ take_at a post (length a) refl);
      inside = let z = ap length e in omega (arith, z, n, length-append pre (length a ∷ (a ++ post)), length-append a post);
    }

string-good : (o : Bool) (s : List ℕ) (at : ℕ) (a : Text) → At s at a → ((o && eqb (length a) 0) || is_identifier a) ≡ true → string_fault o s at ≡ 0
unfolding string_fault
string-good o s at a x h =
    let i = x.inside in
    go (ltb at (length s)) (leb (after_string s at) (length s)) ((o && eqb (get_or s at 0) 0) || is_identifier (form.string s at)) (lt-ltb at (length s) (omega arith))
    (le-leb (after_string s at) (length s) (omega (arith, x.counts, i)))
    (ap (λ (k : ℕ). (o && eqb k 0) || is_identifier (form.string s at)) x.counts ∙ (ap (λ (t : List ℕ). (o && eqb (length a) 0) || is_identifier t) x.bytes ∙ h))
  where
    go : (t u w : Bool) → t ≡ true → u ≡ true → w ≡ true → cond {A = ℕ} t (cond u (cond w 0 5) 1) 1 ≡ 0
    go true true true p q r = refl
    go true true false p q r = let z : ◌≡◌ {A = ℕ} 0 1 = cc in absurd (omega arith)
    go true false w p q r = let z : ◌≡◌ {A = ℕ} 0 1 = cc in absurd (omega arith)
    go false u w p q r = let z : ◌≡◌ {A = ℕ} 0 1 = cc in absurd (omega arith)

or-none : (a b : ℕ) → a ≡ 0 → b ≡ 0 → or_else a b ≡ 0
or-none a b h k = go (eqb a 0)
  where
    go : (t : Bool) → cond t b a ≡ 0
    go true = k
    go false = h

-- STRINGS ONE AFTER THE OTHER
names-good : (l : List Text) → Every IsName l → (s pre post : List ℕ) (at : ℕ) → s ≡ pre ++ (joined string l ++ post) → length pre ≡ at
    → (names_fault s (length l) at ≡ 0) × (after_strings s (length l) at ≡ at + length (joined string l))
unfolding Every joined names_fault after_strings
names-good [] f s pre post at e n = (refl, omega arith)
names-good (a ∷ l) f s pre post at e n =
    let e1 : s ≡ pre ++ (string a ++ (joined string l ++ post)) = e ∙ ap (λ (k : List ℕ). pre ++ k) (append_assoc (string a) (joined string l) post) in
    let x = string-at s pre a (joined string l ++ post) at e1 n in
    let e2 : s ≡ (pre ++ string a) ++ (joined string l ++ post) = e1 ∙ sym (append_assoc pre (string a) (joined string l ++ post)) in
    let k : after_string s at ≡ at + 1 + length a = ap (λ (c : ℕ). at + 1 + c) x.counts in
    let n2 : length (pre ++ string a) ≡ at + 1 + length a = omega (arith, length-append pre (string a), string-length a, n) in
    let ih = names-good l f.1 s (pre ++ string a) post (at + 1 + length a) e2 n2 in
    let z : at + 1 + length a + length (joined string l) ≡ at + length (string a ++ joined string l) = omega (arith, length-append (string a) (joined string l), string-length a) in (
      or-none (string_fault false s at) (names_fault s (length l) (after_string s at)) (string-good false s at a x f.0) (ap (names_fault s (length l)) k ∙ ih.0),
      ap (after_strings s (length l)) k ∙ (ih.1 ∙ z),
    )

elements-good : (l : List Element) → Every FormedElement l → (s pre post : List ℕ) (at : ℕ) → s ≡ pre ++ (joined element l ++ post) → length pre ≡ at
    → (elements_fault s (length l) at ≡ 0) × (after_elements s (length l) at ≡ at + length (joined element l))
unfolding Every joined element elements_fault after_elements
elements-good [] f s pre post at e n = (refl, omega arith)
elements-good (x ∷ l) f s pre post at e n =
    let a = x.name in
    let c = x.alias in
    let r = joined element l ++ post in
    let e1 : s ≡ pre ++ (string a ++ (string c ++ r)) = e ∙ ap (λ (k : List ℕ). pre ++ k) (append_assoc (string a ++ string c) (joined element l) post ∙ append_assoc (string a) (string c) r) in
    let p = string-at s pre a (string c ++ r) at e1 n in
    let e2 : s ≡ (pre ++ string a) ++ (string c ++ r) = e1 ∙ sym (append_assoc pre (string a) (string c ++ r)) in
    let k : after_string s at ≡ at + 1 + length a = ap (λ (i : ℕ). at + 1 + i) p.counts in
    let n2 : length (pre ++ string a) ≡ at + 1 + length a = omega (arith, length-append pre (string a), string-length a, n) in
    let q = string-at s (pre ++ string a) c r (at + 1 + length a) e2 n2 in
    let e3 : s ≡ ((pre ++ string a) ++ string c) ++ r = e2 ∙ sym (append_assoc (pre ++ string a) (string c) r) in
    let k2 : after_string s (after_string s at) ≡ at + 1 + length a + 1 + length c = ap (λ (i : ℕ). after_string s i) k ∙ ap (λ (i : ℕ). at + 1 + length a + 1 + i) q.counts in
    let n3 : length ((pre ++ string a) ++ string c) ≡ at + 1 + length a + 1 + length c = omega (arith, length-append (pre ++ string a) (string c), string-length c, n2) in
    let ih = elements-good l f.1 s ((pre ++ string a) ++ string c) post (at + 1 + length a + 1 + length c) e3 n3 in
    let z : at + 1 + length a + 1 + length c + length (joined element l) ≡ at + length ((string a ++ string c) ++ joined element l)
    = omega (arith, length-append (string a ++ string c) (joined element l), length-append (string a) (string c), string-length a, string-length c) in (
      or-none (string_fault false s at) (or_else (string_fault true s (after_string s at)) (elements_fault s (length l) (after_element s at))) (string-good false s at a p f.0.0)
          (or-none (string_fault true s (after_string s at)) (elements_fault s (length l) (after_element s at)) (ap (string_fault true s) k ∙ string-good true s (at + 1 + length a) c q f.0.1)
          (ap (elements_fault s (length l)) k2 ∙ ih.0)),
      ap (after_elements s (length l)) k2 ∙ (ih.1 ∙ z),
    )

-- A USE
rest-good : (s : List ℕ) (p n : ℕ) → p < length s → get_or s p 0 ≡ n → n ≤ 32 → elements_fault s n (p + 1) ≡ 0 → after_elements s n (p + 1) ≡ length s → rest_fault s p ≡ 0
unfolding rest_fault
rest-good s p n h e k f g =
    go (ltb p (length s)) (ltb 32 (get_or s p 0)) (elements_fault s (get_or s p 0) (p + 1)) (ltb (after_elements s (get_or s p 0) (p + 1)) (length s)) (lt-ltb p (length s) h)
    (le-ltb 32 (get_or s p 0) (omega (arith, e, k))) (ap (λ (i : ℕ). elements_fault s i (p + 1)) e ∙ f)
    (le-ltb (after_elements s (get_or s p 0) (p + 1)) (length s) (let z = ap (λ (i : ℕ). after_elements s i (p + 1)) e ∙ g in omega arith))
  where
    go : (t u : Bool) (m : ℕ) (w : Bool) → t ≡ true → u ≡ false → m ≡ 0 → w ≡ false → cond {A = ℕ} t (cond u 3 (or_else m (cond w 1 0))) 1 ≡ 0
    go true false m false i j l o = or-none m 0 l refl
    go true false m true i j l o = let z : ◌≡◌ {A = ℕ} 0 1 = cc in absurd (omega arith)
    go true true m w i j l o = let z : ◌≡◌ {A = ℕ} 0 1 = cc in absurd (omega arith)
    go false u m w i j l o = let z : ◌≡◌ {A = ℕ} 0 1 = cc in absurd (omega arith)

module _ (l : List Text) (k : List Element) (s : List ℕ) (is : s ≡ (length l ∷ joined string l) ++ (length k ∷ joined element k)) where
  use_good : ImagePath l → length k ≤ 32 → Every FormedElement k → use_fault s ≡ 0
  unfolding use_fault
  use_good f few g =
      let first : get_or s 0 0 ≡ length l = ap (λ (t : List ℕ). get_or t 0 0) is in
      let long : length s ≡ 1 + length (joined string l) + (1 + length (joined element k)) = ap length is ∙ omega (arith, length-append (length l ∷ joined string l) (length k ∷ joined element k)) in
      let ns = names-good l f.names s (length l ∷ []) (length k ∷ joined element k) 1 is refl in
      let p = 1 + length (joined string l) in
      let at_p : after_strings s (get_or s 0 0) 1 ≡ p = ap (λ (n : ℕ). after_strings s n 1) first ∙ ns.1 in
      let count : get_or s p 0 ≡ length k = ap (λ (t : List ℕ). get_or t p 0) is ∙ get_or_at (length l ∷ joined string l) (length k) (joined element k) 0 p (omega arith) in
      let e3 : s ≡ ((length l ∷ joined string l) ++ (length k ∷ [])) ++ (joined element k ++ [])
      = is ∙ (sym (append_assoc (length l ∷ joined string l) (length k ∷ []) (joined element k)) ∙ ap (λ (t : List ℕ). ((length l ∷ joined string l) ++ (length k ∷ [])) ++ t) (sym (append-nil (joined element k)))) in
      let n3 : length ((length l ∷ joined string l) ++ (length k ∷ [])) ≡ p + 1 = omega (arith, length-append (length l ∷ joined string l) (length k ∷ [])) in
      let es = elements-good k g s ((length l ∷ joined string l) ++ (length k ∷ [])) [] (p + 1) e3 n3 in
      let rest : rest_fault s p ≡ 0 = rest-good s p (length k) (omega (arith, long)) count few es.0 (es.1 ∙ omega (arith, long)) in
      let c = f.count in
      go (eqb (length s) 0) (ltb 17 (get_or s 0 0)) (or_else (names_fault s (get_or s 0 0) 1) (rest_fault s (after_strings s (get_or s 0 0) 1))) (ne_eqb (length s) 0 (λ z. omega (arith, long, z)))
      (le-ltb 17 (get_or s 0 0) (omega (arith, first, c)))
      (or-none (names_fault s (get_or s 0 0) 1) (rest_fault s (after_strings s (get_or s 0 0) 1)) (ap (λ (n : ℕ). names_fault s n 1) first ∙ ns.0) (ap (rest_fault s) at_p ∙ rest))
    where
      go : (t u : Bool) (m : ℕ) → t ≡ false → u ≡ false → m ≡ 0 → cond {A = ℕ} t 1 (cond u 3 m) ≡ 0
      go false false m i j z = z
      go false true m i j z = let w : ◌≡◌ {A = ℕ} 0 1 = cc in absurd (omega arith)
      go true u m i j z = let w : ◌≡◌ {A = ℕ} 0 1 = cc in absurd (omega arith)

-- THE CALLS OF A PROGRAM
abbrev InForm : Asked → Type 0
InForm a = (n : ℕ) → call_of a.request ≡ bad n → ⊥

named-good : (t : Text) (f : Name → Call) → IsName t → ((a : Name) (n : ℕ) → f a ≡ bad n → ⊥) → (n : ℕ) → form.named t f ≡ bad n → ⊥
named-good t f h apart n e = go (is_identifier t) h e
  where
    go : (c : Bool) → c ≡ true → cond c (f (packed t)) (bad 5) ≡ bad n → ⊥
    go true i k = apart (packed t) n k
    go false i k = let z : ◌≡◌ {A = ℕ} 0 1 = cc in omega arith

declared-good : (k m : ℕ) (v : Bool) (t : Text) → IsName t → InForm (asked m (declares k t v m))
unfolding call_of
declared-good k m v t h n e = go (eqb k 2) (eqb k 4) e
  where
    go : (c d : Bool) → call_of (cond c (inserts_function t v m) (cond d (inserts_enum t v m) (inserts_alias t v m))) ≡ bad n → ⊥
    go true d i = named-good t (λ a. function a v m) h (λ a j q. let z : ◌≡◌ {A = ℕ} 0 1 = cc in omega arith) n i
    go false true i = named-good t (λ a. enum a v m) h (λ a j q. let z : ◌≡◌ {A = ℕ} 0 1 = cc in omega arith) n i
    go false false i = named-good t (λ a. alias a v m) h (λ a j q. let z : ◌≡◌ {A = ℕ} 0 1 = cc in omega arith) n i

used-good : (m : ℕ) (v : Bool) (l : List Text) (k : List Element) → ImagePath l → length k ≤ 32 → Every FormedElement k → InForm (asked m (resolves_use (use_form l k) v))
unfolding call_of use_call counted
used-good m v l k f few g n e = go (eqb (use_fault (use_form l k)) 0) (eq-eqb (use_fault (use_form l k)) 0 (use_good l k (use_form l k) refl f few g)) e
  where
    go : (c : Bool) → c ≡ true → cond c (use_call (use_form l k) v) (bad (use_fault (use_form l k))) ≡ bad n → ⊥
    go true i q = let z : ◌≡◌ {A = ℕ} 0 1 = cc in omega arith
    go false i q = let z : ◌≡◌ {A = ℕ} 0 1 = cc in omega arith

every-both : (l k : List Asked) → Every InForm l → Every InForm k → Every InForm (l ++ k)
unfolding Every
every-both [] k f g = g
every-both (a ∷ l) k f g = (f.0, every-both l k f.1 g)

every-at : (l : List Asked) (a : Asked) (k : List Asked) → Every InForm (l ++ (a ∷ k)) → InForm a
unfolding Every
every-at [] a k f = f.0
every-at (x ∷ l) a k f = every-at l a k f.1

calls-good : (p : Items) (d : ℕ) → ImageFormed p d → Every InForm (scope_calls p)
unfolding ImageFormed scope_calls Every call_of
calls-good none d f = tt
calls-good (named head rest) d f = (declared-good head.kind head.mark (is_public head.visibility) head.name f.0.name, calls-good rest d f.1)
calls-good (use_of m v segments elements rest) d f =
    (used-good m (is_public v) segments elements f.1.0 f.1.1.0.0 f.1.1.0.1, calls-good rest d f.1.1.1)
calls-good (module_of m v name inner rest) d f = (
  named-good name (λ a. enter a (is_public v) m) f.1.0 (λ a j q. let z : ◌≡◌ {A = ℕ} 0 1 = cc in omega arith),
  every-both (scope_calls inner) (asked m exits ∷ scope_calls rest) (calls-good inner (Prim.Native.Nat.◌-◌ d 1) f.1.1.0.1) ((λ n e. let z : ◌≡◌ {A = ℕ} 0 1 = cc in omega arith), calls-good rest d f.1.1.1),
)
calls-good (ignored m v rest) d f = absurd f

-- STEP 6 ENDS at a number from 40 to 51
pub walk-number : (s : List ℕ) → Bytes s → (b : Bundle) → read s ≡ value b → (o : List ℕ) (p : Items) → Program b o p → (n m : ℕ) → Ends flat first_flat (scope_calls p) n m → (40 ≤ n) × (n ≤ 51)
walk-number s B b v o p q n m x =
    let calls = calls-good p 9 (subst (λ (i : Items). ImageFormed i 9) (sym q.is) (assembled-formed b (sound s B b v).1 o q.order)) in
    let formed = every-at x.before x.call x.later (subst (Every InForm) x.is calls) in
    go formed (refused-by x.tree n (call_of x.call.request) x.number)
  where
    go : InForm x.call → RefusedBy x.tree (call_of x.call.request) n → (40 ≤ n) × (n ≤ 51)
    go f (by_form e) = absurd (f n e)
    go f (by_rule l u) = (l, omega arith)
    go f (by_limit e l) = (omega arith, omega arith)
