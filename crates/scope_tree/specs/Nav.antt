-- The walk along a path, turn by turn, as the code makes it. Assumes nothing.
use Rattle.std.specs.Prelude.{ℕ, zero, suc, pred, ◌+◌, ◌*◌, ◌-◌, ◌≤◌, ◌<◌, Bool, cond, ◌&&◌, ◌⊎◌, List, [], ◌∷◌, ltb, leb, get_or, length, drop, Option, Some, None, Result, Ok, Err}
use native.Mathlib.Omega.{arith}
use Rattle.std.proofs.Math.Decide.{dec_lt}
use Rattle.std.proofs.Common.{zero-add, add-one, ap, subst, ◌∙◌, drop_of_length-le, drop-cons}
use Rattle.std.proofs.Math.Path.{◌≡◌, refl, sym}
use Rattle.std.proofs.Math.Bool.{true, false, not}
use Rattle.std.proofs.Math.Logic.{inl, inr}
use Rattle.std.proofs.Math.Dec.{eqb}
use borrow.Author.Tests.{eq-eqb, ne_eqb, lt-ltb, le-ltb, le-leb, lt-leb}
use Rattle.names.specs.declared.Name.{Name}
use Rattle.names.specs.Packed.{packed, same_name}
use Rattle.refusal.specs.declared.Cause.{Cause}
use Rattle.refusal.specs.declared.Cause.TheVariants.{NoModule, PrivateModule}
use Rattle.refusal.specs.Numbers.{number_of}
use Rattle.scope_tree.specs.declared.look.Place.{Place as Site}
use Rattle.scope_tree.specs.declared.look.Way.{Way}
use Rattle.scope_tree.specs.Step.{Tried, done, fail, shared, pass, nav}
use Rattle.scope_tree.specs.Flat.{Entry, none, Place, inside, flat, top, stack_names}
use Rattle.scope_tree.specs.Form.{string, after_string, after_strings, names_from}
use Rattle.scope_tree.specs.FormLaws.{strings_more, strings_none}
use Rattle.scope_tree.specs.Index.{spot_in, Indexed, spot_first}
use Rattle.scope_tree.specs.Rows.{tab, length-tab, get_d_tab, Arrays, arrays, name_at, row_at, first_in, looked, spotted, find_spot, placed, site, inside-site, site-time}

-- THE OPEN MODULES: oldest first in the array, innermost first in the list
unfoldable pub stack_of : List ℕ → ℕ → List ℕ
stack_of a zero = []
stack_of a (suc d) = get_or a d 0 ∷ stack_of a d

-- the scope of the innermost open module
unfoldable pub current_of : List ℕ → ℕ → ℕ
current_of a d = cond (eqb d 0) 0 (get_or a (d - 1) 0)

pub current-top : (a : List ℕ) (d : ℕ) → current_of a d ≡ top (stack_of a d)
unfolding stack_of current_of
current-top a zero = refl
current-top a (suc d) =
    let e : suc d - 1 ≡ d = omega arith in
    rw (ne_eqb (suc d) 0 (λ z. omega arith), e)

-- each open module is an entry
abbrev pub Doors : List ℕ → ℕ → ℕ → Type 0
Doors a d total = (j : ℕ) → j < d → (0 < get_or a j 0) × (get_or a j 0 ≤ total)

pub names-tab : (f : ℕ → Entry) (total : ℕ) (a : List ℕ) (d : ℕ) → Doors a d total
    → stack_names (tab f total) (stack_of a d) ≡ tab (λ j. (f (pred (get_or a j 0))).shows.name) d
unfolding stack_names stack_of tab
names-tab f total a zero w = refl
names-tab f total a (suc d) w =
    let b : pred (get_or a d 0) < total = omega (arith, (w d (omega arith)).0, (w d (omega arith)).1) in
    rw (names-tab f total a d (λ j h. w j (omega arith)), get_d_tab f total (pred (get_or a d 0)) none b)

-- THE SHARED PREFIX: whether the path still leads the open path after segment i
unfoldable pub leads_on : List ℕ → List ℕ → List ℕ → List ℕ → List ℕ → ℕ → Bool → ℕ → Name → Bool
leads_on a b c d stack depth led i n =
    led && (ltb i depth && (ltb 0 (get_or stack i 0) && (leb (get_or stack i 0) 1024 && same_name (name_at a b c d (get_or stack i 0 - 1)) n)))

-- the code's way in the flat tree
abbrev pub way : (ℕ → Entry) → Result Way Cause → Tried Place
way f (Ok w) = done (placed f w.to.scope w.to.time)
way f (Err c) = fail (number_of c)

abbrev pub way_to : ℕ → ℕ → ℕ → Way
way_to s t p = record { to = record { scope = s; time = t }; next = p }

module _ (A : Arrays) (total : ℕ) (stack : List ℕ) (depth : ℕ) (s : List ℕ) (at n : ℕ) where
  abbrev pub open_names : List Name
  open_names = stack_names (tab (row_at A) total) (stack_of stack depth)

  -- the walk of the definition
  abbrev pub walked : Tried Place
  walked = nav flat (shared open_names (names_from s n at)) 0 (names_from s n at) (placed (row_at A) 0 total)

  -- before segment i, which stands at p
  pub record On_way (i p scope time : ℕ) (led : Bool) : Type 0 where
    pub same : walked ≡ nav flat (shared open_names (names_from s n at)) i (names_from s (n - i) p) (placed (row_at A) scope time)
    pub ahead : led ≡ true → shared open_names (names_from s n at) ≡ i + shared (drop i open_names) (names_from s (n - i) p)
    pub behind : led ≡ false → shared open_names (names_from s n at) < i

  pub way-start : On_way 0 at 0 total true
  way-start =
      let e : n ≡ n - 0 = omega arith in
      record {
        same = ap (λ (m : ℕ). nav flat (shared open_names (names_from s n at)) 0 (names_from s m at) (placed (row_at A) 0 total)) e;
        ahead = λ z. ap (λ (m : ℕ). shared open_names (names_from s m at)) e ∙ sym (zero-add _);
        behind = λ z. let y : ◌≡◌ {A = ℕ} 0 1 = cc in absurd (omega arith);
      }

  module _ {i p scope time : ℕ} {led : Bool} (w : On_way i p scope time led) where
    turn : i < n → n - i ≡ suc (n - (i + 1))
    turn h = omega arith

    found : (k : ℕ) (x : Name) {r : Option ℕ} → r ≡ first_in (looked A.scopes A.kinds A.n0 A.n1 A.n2 A.n3 scope k x) scope time
        → flat.find (placed (row_at A) scope time) k x ≡ spotted (row_at A) time r
    found k x q = find_spot (row_at A) time scope k x ∙ ap (spotted (row_at A) time) (sym q)

    -- one segment of the definition
    segment : i < n → walked ≡ pass flat (shared open_names (names_from s n at)) i (flat.find (placed (row_at A) scope time) 3 (packed (string s p))) (nav flat (shared open_names (names_from s n at)) (suc i) (names_from s (n - (i + 1)) (after_string s p)))
    unfolding nav names_from
    segment h = w.same ∙ rw (turn h)

    pub no_module : i < n → (r : Option ℕ) → r ≡ first_in (looked A.scopes A.kinds A.n0 A.n1 A.n2 A.n3 scope 3 (packed (string s p))) scope time → r ≡ None
        → way (row_at A) (Err NoModule) ≡ walked
    no_module h r q z = sym (segment h ∙ rw (found 3 (packed (string s p)) q, z))

    module _ (h : i < n) (e : ℕ) (q : Some e ≡ first_in (looked A.scopes A.kinds A.n0 A.n1 A.n2 A.n3 scope 3 (packed (string s p))) scope time) where
      pub private_module : (get_or A.visible e 0 ≡ 1 → ⊥) → led ≡ false → way (row_at A) (Err PrivateModule) ≡ walked
      private_module v l =
          sym (segment h ∙ rw (found 3 (packed (string s p)) q, ne_eqb (get_or A.visible e 0) 1 v, lt-ltb (shared open_names (names_from s n at)) i (w.behind l)))

      -- on the open path, or public: into it
      passed : ((get_or A.visible e 0 ≡ 1) ⊎ (led ≡ true)) → walked ≡ nav flat (shared open_names (names_from s n at)) (suc i) (names_from s (n - (i + 1)) (after_string s p)) (inside (tab (row_at A) time) e (row_at A e).body)
      passed (inl v) = segment h ∙ rw (found 3 (packed (string s p)) q, eq-eqb (get_or A.visible e 0) 1 v)
      passed (inr l) =
          let k : i ≤ shared open_names (names_from s n at) = omega (arith, w.ahead l) in
          segment h ∙ rw (found 3 (packed (string s p)) q, le-ltb (shared open_names (names_from s n at)) i k) (go (eqb (get_or A.visible e 0) 1) _ _)
        where
          go : (b : Bool) (y z : Tried Place) → cond (not b && false) y z ≡ z
          go true y z = refl
          go false y z = refl

      abbrev room : Rattle.scope_tree.specs.declared.look.Place.Place
      room = site e (get_or A.kinds e 0) (get_or A.origins e 0) (get_or A.targets e 0) (get_or A.times e 0) time

      -- the next segment
      next-name : Doors stack depth total → i < depth → drop i open_names ≡ name_at A.n0 A.n1 A.n2 A.n3 (get_or stack i 0 - 1) ∷ drop (suc i) open_names
      next-name doors d =
          let g : ℕ → Name = λ j. (row_at A (pred (get_or stack j 0))).shows.name in
          let b : i < length (tab g depth) = rw length-tab d in
          let x : pred (get_or stack i 0) ≡ get_or stack i 0 - 1 = omega arith in
          rw (names-tab (row_at A) total stack depth doors)
          (drop-cons (tab g depth) i none.shows.name b ∙ ap (λ (y : Name). y ∷ drop (suc i) (tab g depth)) (get_d_tab g depth i none.shows.name d ∙ rw x))

      no_name : Doors stack depth total → depth ≤ i → drop i open_names ≡ []
      no_name doors d =
          let g : ℕ → Name = λ j. (row_at A (pred (get_or stack j 0))).shows.name in
          let b : length (tab g depth) ≤ i = rw length-tab d in
          rw (names-tab (row_at A) total stack depth doors) (drop_of_length-le (tab g depth) b)

      abbrev test : Bool
      test = same_name (name_at A.n0 A.n1 A.n2 A.n3 (get_or stack i 0 - 1)) (packed (string s p))

      -- whether the path leads after this segment, and how far the two agree
      abbrev Agreed : Bool → Type 0
      Agreed on =
          (on ≡ true → shared open_names (names_from s n at) ≡ suc i + shared (drop (suc i) open_names) (names_from s (n - (i + 1)) (after_string s p)))
          × (on ≡ false → shared open_names (names_from s n at) < suc i)

      agreed : Doors stack depth total → total ≤ 1024 → (on : Bool) → on ≡ leads_on A.n0 A.n1 A.n2 A.n3 stack depth led i (packed (string s p)) → Agreed on
      unfolding shared names_from leads_on
      agreed doors t on u = pick led refl (dec_lt i depth) w.ahead
        where
          both : (d : i < depth) → led ≡ true → on ≡ test
          both d l =
              let x = doors i d in
              u ∙ rw (l, lt-ltb i depth d, lt-ltb 0 (get_or stack i 0) x.0, le-leb (get_or stack i 0) 1024 (omega arith))

          last : (b : Bool) → on ≡ b → shared open_names (names_from s n at) ≡ i + cond b (suc (shared (drop (suc i) open_names) (names_from s (n - (i + 1)) (after_string s p)))) 0 → Agreed on
          last true v k = (λ z. omega arith, λ z. let y : ◌≡◌ {A = ℕ} 0 1 = cc in absurd (omega arith))
          last false v k = (λ z. let y : ◌≡◌ {A = ℕ} 0 1 = cc in absurd (omega arith), λ z. omega arith)

          pick : (l : Bool) → led ≡ l → Dec (i < depth) → (led ≡ true → shared open_names (names_from s n at) ≡ i + shared (drop i open_names) (names_from s (n - i) p)) → Agreed on
          pick false l d a =
              let v : on ≡ false = u ∙ rw l in
              (λ z. let y : ◌≡◌ {A = ℕ} 0 1 = cc in absurd (omega arith), λ z. omega (arith, w.behind l))
          pick true l (no d) a =
              let x : depth ≤ i = omega arith in
              let v : on ≡ false = u ∙ rw (l, le-ltb i depth x) in
              let k : shared open_names (names_from s n at) ≡ i + 0 = a l ∙ rw (turn h, no_name doors x) in
              (λ z. let y : ◌≡◌ {A = ℕ} 0 1 = cc in absurd (omega arith), λ z. omega arith)
          pick true l (yes d) a = last test (both d l) (a l ∙ rw (turn h, next-name doors d))

      pub way-turn : Doors stack depth total → total ≤ 1024 → ((get_or A.visible e 0 ≡ 1) ⊎ (led ≡ true)) → (on : Bool) → on ≡ leads_on A.n0 A.n1 A.n2 A.n3 stack depth led i (packed (string s p))
          → On_way (i + 1) (after_string s p) room.scope room.time on
      way-turn doors t v on u =
          let x : i + 1 ≡ suc i = add-one i in
          let y = agreed doors t on u in
          record {
            same = passed v ∙ rw (inside-site (row_at A) e (get_or A.kinds e 0) (get_or A.origins e 0) (get_or A.targets e 0) (get_or A.times e 0) time, x);
            ahead = λ z. subst (λ (m : ℕ). shared open_names (names_from s n at) ≡ m + shared (drop m open_names) (names_from s (n - (i + 1)) (after_string s p))) (sym x) (y.0 z);
            behind = λ z. omega (arith, y.1 z);
          }

    pub way_end : n ≤ i → (q : ℕ) → way (row_at A) (Ok (way_to scope time q)) ≡ walked
    unfolding nav names_from
    way_end h q = let e : n - i ≡ 0 = omega arith in sym (w.same ∙ rw e)

-- AS THE CODE HAS IT: the arrays but for the marks, which a walk does not read
module _ (ks vs ss n0 n1 n2 n3 os ts us xs : List ℕ) (total : ℕ) (stack : List ℕ) (depth : ℕ) (s : List ℕ) (at n : ℕ) where
  abbrev with_marks : List ℕ → Arrays
  with_marks m = arrays ks vs ss m n0 n1 n2 n3 os ts us xs

  -- the definition's place or number, whatever the marks
  pub record Same_way (r : Result Way Cause) : Type 0 where
    pub same : total ≤ 1024 → Indexed xs ss ks n0 n1 n2 n3 total → Doors stack depth total → (m : List ℕ) → way (row_at (with_marks m)) r ≡ walked (with_marks m) total stack depth s at n

  pub record Reached (w : Way) : Type 0 where
    pub way : Same_way (Ok w)
    pub time : w.to.time ≤ total
    pub next : w.next ≡ after_strings s n at
    pub below : w.next ≤ at + 256 * n

  -- where the path leads
  abbrev pub Arrived : Result Way Cause → Type 0
  Arrived (Ok w) = Reached w
  Arrived (Err c) = Same_way (Err c)

  pub record Walking (i p scope time : ℕ) (led : Bool) : Type 0 where
    pub within : i ≤ n
    pub below : p ≤ at + 256 * i
    pub early : time ≤ total
    pub after : after_strings s n at ≡ after_strings s (n - i) p
    pub same : total ≤ 1024 → Indexed xs ss ks n0 n1 n2 n3 total → Doors stack depth total → (m : List ℕ) → On_way (with_marks m) total stack depth s at n i p scope time led

  pub walking_start : Walking 0 at 0 total true
  walking_start =
      let e : n ≡ n - 0 = omega arith in
      record {
        within = omega arith;
        below = omega arith;
        early = omega arith;
        after = ap (λ (m : ℕ). after_strings s m at) e;
        same = λ c ix d m. way-start (with_marks m) total stack depth s at n;
      }

  module _ {i p scope time : ℕ} {led : Bool} (w : Walking i p scope time led) (h : i < n) {x : Name} (q : x ≡ packed (string s p)) where
    pub walking_missing : {r : Option ℕ} → r ≡ spot_in xs ss ks n0 n1 n2 n3 scope time 3 x → r ≡ None → Arrived (Err NoModule)
    walking_missing {r} f z =
        record { same = λ c ix d m. no_module (with_marks m) total stack depth s at n (w.same c ix d m) h r (f ∙ rw q (spot_first ix c scope time 3 (packed (string s p)) w.early)) z }

    module _ {e : ℕ} (f : Some e ≡ spot_in xs ss ks n0 n1 n2 n3 scope time 3 x) where
      f' : total ≤ 1024 → Indexed xs ss ks n0 n1 n2 n3 total → Some e ≡ first_in (looked ss ks n0 n1 n2 n3 scope 3 (packed (string s p))) scope time
      f' c ix = f ∙ rw q (spot_first ix c scope time 3 (packed (string s p)) w.early)

      pub walking_private : (get_or vs e 0 ≡ 1 → ⊥) → led ≡ false → Arrived (Err PrivateModule)
      walking_private v z =
          record { same = λ c ix d m. private_module (with_marks m) total stack depth s at n (w.same c ix d m) h e (f' c ix) v z }

      pub walking_turn : total ≤ 1024 → (get_or vs e 0 ≡ 1) ⊎ (led ≡ true)
          → {g : Site} → g ≡ site e (get_or ks e 0) (get_or os e 0) (get_or ts e 0) (get_or us e 0) time
          → {on : Bool} → on ≡ leads_on n0 n1 n2 n3 stack depth led i x → {p' : ℕ} → (p' ≡ after_string s p) × (p' ≤ p + 256)
          → Walking (i + 1) p' g.scope g.time on
      walking_turn t u v {on} l {p'} y =
          rw v
          (record {
            within = omega arith;
            below = omega (arith, w.below, y.1);
            early = omega (arith, w.early, site-time e (get_or ks e 0) (get_or os e 0) (get_or ts e 0) (get_or us e 0) time);
            after = rw y.0 (w.after ∙ strings_more s p i n h);
            same = λ c ix d m. rw y.0 (way-turn (with_marks m) total stack depth s at n (w.same c ix d m) h e (f' c ix) d t u on (rw (← q) l));
          })

  pub walking_end : {i p scope time : ℕ} {led : Bool} → Walking i p scope time led → n ≤ i → Arrived (Ok (way_to scope time p))
  walking_end {i} {p} w h =
      record {
        way = record { same = λ c ix d m. way_end (with_marks m) total stack depth s at n (w.same c ix d m) h p };
        time = w.early;
        next = sym (w.after ∙ strings_none s p i n h);
        below = omega (arith, w.below, w.within);
      }

-- WHETHER A PATH LEADS THE OPEN PATH, test by test
module _ (a b c d stack : List ℕ) (depth i : ℕ) (n : Name) where
  pub leads-off : {led : Bool} → led ≡ false → false ≡ leads_on a b c d stack depth led i n
  unfolding leads_on
  leads-off l = rw l

  module _ {led : Bool} (l : led ≡ true) where
    pub leads-short : depth ≤ i → false ≡ leads_on a b c d stack depth led i n
    unfolding leads_on
    leads-short h = rw (l, le-ltb i depth h)

    module _ (h : i < depth) (s : ℕ) (q : s ≡ get_or stack i 0) where
      pub leads-root : s ≡ 0 → false ≡ leads_on a b c d stack depth led i n
      unfolding leads_on
      leads-root z = rw (l, lt-ltb i depth h, ← q, z)

      module _ (z : s ≡ 0 → ⊥) where
        pos : 0 < s
        pos = omega arith

        pub leads-far : 1024 < s → false ≡ leads_on a b c d stack depth led i n
        unfolding leads_on
        leads-far k = rw (l, lt-ltb i depth h, ← q, lt-ltb 0 s pos, lt-leb s 1024 k)

        pub leads-near : s ≤ 1024 → (r : Bool) → r ≡ same_name (name_at a b c d (s - 1)) n → r ≡ leads_on a b c d stack depth led i n
        unfolding leads_on
        leads-near k r e = e ∙ rw (l, lt-ltb i depth h, ← q, lt-ltb 0 s pos, le-leb s 1024 k)
