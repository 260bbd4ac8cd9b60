-- The flat list is the register: every call list leaves the two alike. Assumes nothing.
use Rattle.std.specs.Prelude.{ℕ, suc, ◌≤◌, ◌<◌, ◌≡◌, Bool, cond, ◌⊎◌, eqb, take}
use native.Mathlib.Omega.{arith}
use Rattle.std.proofs.Math.Decide.{dec_lt}
use Rattle.std.proofs.Math.Path.{refl, subst}
use Rattle.std.proofs.Common.{ap, sym, ◌∙◌, inl, inr, ⊎_elim, take-append-drop, take_at, length-take-le}
use Rattle.std.proofs.Math.Bool.{true, false}
use mathlib.Core.List.{List, [], ◌∷◌, ◌++◌, append_assoc, append-nil}
use Rattle.std.proofs.Math.ListN.{length, drop, length-append, drop_of_length-le}
use Rattle.std.proofs.lemmas.List.{get_or_at}
use Rattle.names.specs.declared.Name.{Name}
use Rattle.scope_tree.specs.Step.{declared, Head, Call, got}
use Rattle.scope_tree.specs.Register.{Scope, end, node, append, is, find, Opened, Register, shut, whole, names, leave, register, first_register, registered, tree_of}
use Rattle.scope_tree.specs.Flat.{Body, own, copy, Entry, Flat, Place, inside, look, top, none, stack_names, pop, flat, first_flat, flattened, build, within, view, past_of, pasts, write}
use Rattle.scope_tree.specs.Laws.{All, all_append, all_map, view-stays, Has, Times, copied, write-push, write-shut, write_new}
use Rattle.scope_tree.specs.Sim.{Origin, made, taken, SameFound, no_one, both, Simulation, cond_both, run_ok}

-- PLACES
pub has_more : {l : List Entry} {i : ℕ} {e : Entry} (ys : List Entry) → Has l i e → Has (l ++ ys) i e
has_more {l} {i} {e} ys h = record { front = h.front; back = h.back ++ ys; is = rw (h.is, append_assoc); at = h.at }

pub has-below : {l : List Entry} {i : ℕ} {e : Entry} → Has l i e → i < length l
has-below {l} {i} {e} h = omega (arith, h.at, ap length h.is, length-append h.front (e ∷ h.back))

-- an entry of l with one more at its end
pub has_snoc : {i : ℕ} {e : Entry} (l : List Entry) (x : Entry) → Has (l ++ (x ∷ [])) i e → Has l i e ⊎ ((i ≡ length l) × (e ≡ x))
has_snoc {i} {e} l x h = go l h.front h.is h.at
  where
    go : {i : ℕ} (l f : List Entry) → l ++ (x ∷ []) ≡ f ++ (e ∷ h.back) → length f ≡ i → Has l i e ⊎ ((i ≡ length l) × (e ≡ x))
    go [] [] q a = inr (omega arith, cc)
    go [] (y ∷ []) q a = let z : ◌≡◌ {A = ℕ} 0 1 = cc in absurd (omega arith)
    go [] (y ∷ (y' ∷ f)) q a = let z : ◌≡◌ {A = ℕ} 0 1 = cc in absurd (omega arith)
    go (w ∷ l) [] q a = let p : w ≡ e = cc in inl (record { front = []; back = l; is = rw p; at = a })
    go (w ∷ l) (y ∷ f) q a =
        let p : w ≡ y = cc in
        ⊎_elim
        (λ k. inl (record { front = y ∷ k.front; back = k.back; is = rw (p, k.is); at = rw k.at a }))
        (λ k. inr (let k' = k.0 in omega arith, k.1)) (go {i = length f} l f (cc) refl)

pub times-front : (l ys : List Entry) → Times (l ++ ys) → Times l
times-front l ys t i e a u h b = t i e a u (has_more ys h) b

-- THE OPEN MODULES: each is the last entry of its parent; what came after stands in it or below it
pub record Door (l front : List Entry) (e : Entry) (back : List Entry) (s : ℕ) (ss : List ℕ) (c : Scope) (o : Opened) : Type 0 where
  pub split : l ≡ front ++ (e ∷ back)
  pub number : s ≡ suc (length front)
  pub holds : c ≡ write l s
  pub stands : e.scope ≡ top ss
  pub mine : e.body ≡ own
  pub shows : o.shows ≡ e.shows
  pub id : o.id ≡ length front
  pub below : All (λ y. s ≤ y.scope) back

pub data Zip : List Entry → List ℕ → Scope → List Opened → Type 0 where
  at_root : {l : List Entry} {c : Scope} → c ≡ write l 0 → Zip l [] c []
  in_module : {l front back : List Entry} {e : Entry} {s : ℕ} {ss : List ℕ} {c : Scope} {o : Opened} {os : List Opened}
      → Door l front e back s ss c o → Zip front ss o.before os → Zip l (s ∷ ss) c (o ∷ os)

zip-top : {l : List Entry} {ss : List ℕ} {c : Scope} {os : List Opened} → Zip l ss c os → top ss ≤ length l
zip-top (at_root q) = omega arith
zip-top (in_module {front} {back} {e} d z) = omega (arith, d.number, ap length d.split, length-append front (e ∷ back))

zip-here : {l : List Entry} {ss : List ℕ} {c : Scope} {os : List Opened} → Zip l ss c os → c ≡ write l (top ss)
zip-here (at_root q) = q
zip-here (in_module d z) = d.holds

zip-names : {l : List Entry} {ss : List ℕ} {c : Scope} {os : List Opened} → Zip l ss c os → (ys : List Entry) → stack_names (l ++ ys) ss ≡ names os
unfolding stack_names names
zip-names (at_root q) ys = refl
zip-names (in_module {l} {front} {back} {e} {s} {ss} {o} {os} d z) ys =
    let q : l ++ ys ≡ front ++ (e ∷ (back ++ ys)) = rw (d.split, append_assoc) in
    ap (λ (x : List Entry). stack_names x (s ∷ ss)) q
    ∙ rw (d.number, zip-names z (e ∷ (back ++ ys)), get_or_at front e (back ++ ys) none (length front) refl, d.shows)

-- a module's contents with the entry e more, the next after l
abbrev pushed : List Entry → Entry → Scope → Scope
pushed l e c = append c (node (length l) e.shows (within e.body end (past_of (pasts l) l e.body)) end)

zip_push : {l : List Entry} {ss : List ℕ} {c : Scope} {os : List Opened} (e : Entry) → Zip l ss c os → e.scope ≡ top ss → Zip (l ++ (e ∷ [])) ss (pushed l e c) os
zip_push {l} {c} e (at_root q) t =
    at_root {l = l ++ (e ∷ [])} {c = pushed l e c} (rw q (sym (write-push l e 0 (omega arith) t)))
zip_push {l} {c} e (in_module {front} {back} {e = x} {s} {ss = ss'} {o} d z) t =
    in_module {l = l ++ (e ∷ [])} {front = front} {back = back ++ (e ∷ [])} {e = x} {c = pushed l e c} (record {
      split = rw (d.split, append_assoc);
      number = d.number;
      holds = rw d.holds (sym (write-push l e s (zip-top (in_module d z)) t));
      stands = d.stands;
      mine = d.mine;
      shows = d.shows;
      id = d.id;
      below = all_append _ back (e ∷ []) d.below (omega arith, tt);
    }) z

zip_open : {l : List Entry} {ss : List ℕ} {c : Scope} {os : List Opened} (e : Entry) → Zip l ss c os → e.scope ≡ top ss → e.body ≡ own
    → Zip (l ++ (e ∷ [])) (suc (length l) ∷ ss) end (record { id = length l; shows = e.shows; before = c } ∷ os)
zip_open {l} e z t b =
    in_module {front = l} {back = []} {e = e} (record {
      split = refl;
      number = refl;
      holds = sym (write_new l e);
      stands = t;
      mine = b;
      shows = refl;
      id = refl;
      below = tt;
    }) z

-- what a door's parent holds once it is shut
door_shut : {l front back : List Entry} {e : Entry} {s : ℕ} {ss : List ℕ} {c : Scope} {o : Opened} {os : List Opened}
    → Door l front e back s ss c o → Zip front ss o.before os → shut o c ≡ write l (top ss)
door_shut {l} {front} {back} {e} {s} {ss} {c} {o} d z =
    let w = write-shut front e back (top ss) (zip-top z) d.stands d.mine (rw d.number at d.below) in
    rw (d.holds, d.number, d.split, zip-here z, d.shows, d.id) (sym w)

zip-close : {l : List Entry} {s : ℕ} {ss : List ℕ} {c : Scope} {o : Opened} {os : List Opened} → Zip l (s ∷ ss) c (o ∷ os) → Zip l ss (shut o c) os
zip-close (in_module d (at_root q)) = at_root (door_shut d (at_root q))
zip-close {l} {c} {o} (in_module {front} {back} {e} {s} d (in_module {front = front'} {back = back'} {e = e'} {s = s'} d' z)) =
    in_module {l = l} {front = front'} {back = back' ++ (e ∷ back)} {e = e'} (record {
      split = rw (d.split, d'.split, append_assoc);
      number = d'.number;
      holds = door_shut d (in_module d' z);
      stands = d'.stands;
      mine = d'.mine;
      shows = d'.shows;
      id = d'.id;
      below = all_append _ back' (e ∷ back) d'.below
          (omega (arith, d.stands), all_map _ _ (λ y h. let t = zip-top (in_module d' z) in omega (arith, d.number)) back d.below);
    }) z

zip_out : {l : List Entry} {ss : List ℕ} {c : Scope} {o : Opened} {os : List Opened} → Zip l ss c (o ∷ os) → (ss' : List ℕ) × Zip l ss' (shut o c) os
zip_out (in_module {ss} d z) = (ss, zip-close (in_module d z))

zip-whole : (os : List Opened) {l : List Entry} {ss : List ℕ} {c : Scope} → Zip l ss c os → whole c os ≡ write l 0
unfolding whole
zip-whole [] (at_root q) = q
zip-whole (o ∷ os) z = zip-whole os (zip_out z).1

-- THE RELATION

-- the entry of the number i shows h
pub record Known (l : List Entry) (i : ℕ) (h : Head) : Type 0 where
  pub entry : Entry
  pub has : Has l i entry
  pub shows : entry.shows ≡ h

-- where an entry stands: in the root, or in a module before it
pub data Home (l : List Entry) (j : ℕ) (s : ℕ) : Type 0 where
  at_top : s ≡ 0 → Home l j s
  in_own : (i : ℕ) (e : Entry) → s ≡ suc i → i < j → Has l i e → e.body ≡ own → Home l j s

-- what each entry is: its copy is of a time that had been; its origin and its home are before it
pub record Sound (l : List Entry) : Type 0 where
  pub times : Times l
  pub origin : (j : ℕ) (e : Entry) → Has l j e → Origin (λ i g. (i < j) × Known l i g) e.shows
  pub home : (j : ℕ) (e : Entry) → Has l j e → Home l j e.scope

pub record Rel (r : Register) (f : Flat) : Type 0 where
  pub total : r.total ≡ length f.entries
  pub zip : Zip f.entries f.stack r.inner r.outer
  pub sound : Sound f.entries

-- the contents c are those of the place d, whose entries are the first of the tree
pub record At (f : Flat) (c : Scope) (d : Place) : Type 0 where
  pub later : List Entry
  pub first : f.entries ≡ d.among ++ later
  pub times : Times d.among
  pub same : c ≡ write d.among d.scope

known_more : {l : List Entry} {i : ℕ} {h : Head} (ys : List Entry) → Known l i h → Known (l ++ ys) i h
known_more ys k = record { entry = k.entry; has = has_more ys k.has; shows = k.shows }

origin-map : {h : Head} (P Q : ℕ → Head → Type 0) → ((i : ℕ) (g : Head) → P i g → Q i g) → Origin P h → Origin Q h
origin-map P Q f (made e) = made e
origin-map P Q f (taken i g e a v p) = taken i g e a v (f i g p)

home-more : {l : List Entry} {j s : ℕ} (ys : List Entry) → Home l j s → Home (l ++ ys) j s
home-more ys (at_top e) = at_top e
home-more ys (in_own i e q b h o) = in_own i e q b (has_more ys h) o

sound-push : (l : List Entry) (x : Entry) → Sound l → ((a u : ℕ) → x.body ≡ copy a u → u ≤ length l) → Origin (Known l) x.shows → Home l (length l) x.scope → Sound (l ++ (x ∷ []))
sound-push l x s t o h =
    record {
      times = λ i e a u k b. ⊎_elim (λ k'. s.times i e a u k' b) (λ q. rw q.0 (t a u (rw q.1 at b))) (has_snoc l x k);
      origin = λ j e k. ⊎_elim
          (λ k'. origin-map _ _ (λ i g p. (p.0, known_more (x ∷ []) p.1)) (s.origin j e k'))
          (λ q. rw (q.0, q.1) (origin-map _ _ (λ i g p. (has-below p.has, known_more (x ∷ []) p)) o)) (has_snoc l x k);
      home = λ j e k. ⊎_elim (λ k'. home-more (x ∷ []) (s.home j e k')) (λ q. rw (q.0, q.1) (home-more (x ∷ []) h)) (has_snoc l x k);
    }

zip-home : {l : List Entry} {ss : List ℕ} {c : Scope} {os : List Opened} → Zip l ss c os → Home l (length l) (top ss)
zip-home (at_root q) = at_top refl
zip-home {l} (in_module {front} {back} {e} d z) =
    in_own (length front) e d.number (omega (arith, ap length d.split, length-append front (e ∷ back)))
    (record { front = front; back = back; is = d.split; at = refl }) d.mine

-- LOOKUPS AGREE
pub behind : (front : List Entry) (e : Entry) (xs : List Entry) (i : ℕ) → length front ≡ i → drop (suc i) (front ++ (e ∷ xs)) ≡ xs
behind front e xs i q = rw (← q) (go front)
  where
    go : (f : List Entry) → drop (suc (length f)) (f ++ (e ∷ xs)) ≡ xs
    go [] = refl
    go (y ∷ f) = go f

module _ (f : Flat) (l later : List Entry) (first : f.entries ≡ l ++ later) (times : Times l) where
  inside-ok : (i : ℕ) (e : Entry) (front xs : List Entry) → l ≡ front ++ (e ∷ xs) → length front ≡ i
      → At f (within e.body (build (pasts l) (suc i) xs (suc i)) (pasts l i)) (inside l i e.body)
  inside-ok i e front xs q a = go e.body refl
    where
      go : (b : Body) → e.body ≡ b → At f (within b (build (pasts l) (suc i) xs (suc i)) (pasts l i)) (inside l i b)
      go own h =
          let w : drop (suc i) l ≡ xs = rw q (behind front e xs i a) in
          record { later = later; first = first; times = times; same = rw w }
      go (copy s u) h =
          let k : Has l i e = record { front = front; back = xs; is = q; at = a } in
          record {
            later = drop u l ++ later;
            first = first ∙ (rw (← append_assoc (take u l) (drop u l) later, take-append-drop u l));
            times = times-front (take u l) (drop u l) (rw (take-append-drop u l) times);
            same = copied l i e s u k h (times i e s u k h);
          }

  look-ok : (k : ℕ) (n : Name) (s : ℕ) (xs front : List Entry) (i : ℕ) → l ≡ front ++ xs → length front ≡ i
      → SameFound (At f) (Known f.entries) (find (build (pasts l) i xs s) k n) (look l k n s i xs)
  unfolding build look find
  look-ok k n s [] front i q a = no_one
  look-ok k n s (e ∷ xs) front i q a =
      go (eqb e.scope s) (look-ok k n s xs (front ++ (e ∷ [])) (suc i) (rw append_assoc q) (rw length-append (omega arith)))
    where
      go : (b : Bool) → SameFound (At f) (Known f.entries) (find (build (pasts l) (suc i) xs s) k n) (look l k n s (suc i) xs)
          → SameFound (At f) (Known f.entries)
          (find (cond b (node i e.shows (within e.body (build (pasts l) (suc i) xs (suc i)) (pasts l i)) (build (pasts l) (suc i) xs s)) (build (pasts l) (suc i) xs s)) k n)
          (cond b (cond (is k n e.shows) (got i e.shows (inside l i e.body)) (look l k n s (suc i) xs)) (look l k n s (suc i) xs))
      go true ih =
          cond_both (SameFound (At f) (Known f.entries)) (is k n e.shows)
          (both (record { entry = e; has = subst (λ (m : List Entry). Has m i e) (sym first) (has_more later (record { front = front; back = xs; is = q; at = a })); shows = refl }) (inside-ok i e front xs q a)) ih
      go false ih = ih

  find-same : (s k : ℕ) (n : Name) → SameFound (At f) (Known f.entries) (find (write l s) k n) (look l k n s s (drop s l))
  unfolding build look find
  find-same s k n = go (dec_lt s (length l))
    where
      go : Dec (s < length l) → SameFound (At f) (Known f.entries) (find (write l s) k n) (look l k n s s (drop s l))
      go (yes h) = look-ok k n s (drop s l) (take s l) s (sym (take-append-drop s l)) (length-take-le s l (omega arith))
      go (no h) =
          let le : length l ≤ s = omega arith in
          let w : drop s l ≡ [] = drop_of_length-le l le in
          rw w no_one

-- THE TWO MODELS AGREE
at-whole : {r : Register} {f : Flat} → Rel r f → (c : Scope) (s : ℕ) → c ≡ write f.entries s → At f c (record { among = f.entries; scope = s })
at-whole {f} r c s q = record { later = []; first = sym (append-nil f.entries); times = r.sound.times; same = q }

add_same : (r : Register) (f : Flat) (h : Head) (c : Scope) (d : Place) → Rel r f → Origin (Known f.entries) h → At f c d → Rel (register.add r h c) (flat.add f h d)
add_same r f h c d q o s =
    let e : Entry = record { scope = top f.stack; shows = h; body = copy d.scope (length d.among) } in
    let l : List Entry = f.entries in
    let w : view (pasts l) (take (length d.among) l) d.scope ≡ c =
    rw (s.first, take_at d.among s.later (length d.among) refl) (view-stays d.among s.later d.scope ∙ sym s.same) in
    record {
      total = rw (length-append f.entries, q.total) (omega arith);
      zip = rw (q.total, ← w) (zip_push e q.zip refl);
      sound = sound-push l e q.sound
          (λ a u b. let v : length d.among ≡ u = cc in omega (arith, ap length s.first, length-append d.among s.later)) o (zip-home q.zip);
    }

open_same : (r : Register) (f : Flat) (h : Head) → Rel r f → h.came ≡ declared → Rel (register.opened r h) (flat.opened f h)
open_same r f h q m =
    let e : Entry = record { scope = top f.stack; shows = h; body = own } in
    record {
      total = rw (length-append f.entries, q.total) (omega arith);
      zip = rw q.total (zip_open e q.zip refl refl);
      sound = sound-push f.entries e q.sound (λ a u b. let z : ◌≡◌ {A = ℕ} 0 1 = cc in absurd (omega arith)) (made m) (zip-home q.zip);
    }

close-same : (n : ℕ) {l : List Entry} {ss : List ℕ} {c : Scope} {os : List Opened} → n ≡ length l → Sound l → Zip l ss c os → Rel (leave n c os) (pop l ss)
close-same n t s (at_root q) = record { total = t; zip = at_root q; sound = s }
close-same n t s (in_module d z) = record { total = t; zip = zip-close (in_module d z); sound = s }

pub agree : Simulation register flat Rel At (λ f. Known f.entries)
unfolding build
agree =
    record {
      empty_ok = λ f. record { later = f.entries; first = refl; times = λ i e a u h b. absurd (let z = has-below h in omega arith); same = refl };
      root_ok = λ r f q. at-whole q _ 0 (zip-whole r.outer q.zip);
      here_ok = λ r f q. at-whole q _ _ (zip-here q.zip);
      find_ok = λ f c d s k n. rw s.same (find-same f d.among s.later s.first s.times d.scope k n);
      names_ok = λ r f q. sym (subst (λ (m : List Entry). stack_names m f.stack ≡ names r.outer) (append-nil f.entries) (zip-names q.zip []));
      count_ok = λ r f q. q.total;
      add_ok = λ r f h c d q t o s. add_same r f h c d q o s;
      add_stays = λ f h e c d s.
          let x : Entry = record { scope = top f.stack; shows = h; body = copy e.scope (length e.among) } in
          record { later = s.later ++ (x ∷ []); first = rw (s.first, append_assoc); times = s.times; same = s.same };
      open_ok = λ r f h q m k n. open_same r f h q m;
      close_ok = λ r f q. close-same r.total q.total q.sound q.zip;
    }

first-rel : Rel first_register first_flat
unfolding build
first-rel =
    record {
      total = refl;
      zip = at_root refl;
      sound = record {
        times = λ i e a u h b. absurd (let z = has-below h in omega arith);
        origin = λ j e h. absurd (let z = has-below h in omega arith);
        home = λ j e h. absurd (let z = has-below h in omega arith);
      };
    }

-- THE THEOREM: whatever the calls, the answers are the same, and the flat list written out is the register's tree
pub alike : (cs : List Call) → Rel (registered cs).0 (flattened cs).0
alike cs = (run_ok agree cs first_register first_flat first-rel).0

pub same-answers : (cs : List Call) → (registered cs).1 ≡ (flattened cs).1
same-answers cs = (run_ok agree cs first_register first_flat first-rel).1

pub same-tree : (cs : List Call) → write (flattened cs).0.entries 0 ≡ tree_of (registered cs).0
same-tree cs = sym (zip-whole _ (alike cs).zip)
