-- What each step of the code's walk makes of its state. Assumes nothing.
use Rattle.std.specs.Prelude.{◌≡◌, refl, Bool, true, false, ◌||◌, ℕ, zero, suc, ◌<◌, ◌≤◌, ◌+◌, ◌-◌, length, take, drop, get_or, set, replicate, eqb, Option, Some, None}
use Rattle.std.specs.List.{position}
use Rattle.std.proofs.Common.{sym, subst, ◌∙◌, ⊎_elim, add-one, arith, length-set, length-append, drop_of_length-le, drop-cons, take_at, length-drop, get_or-set_same, get_or-set_other, eq-eqb, ne_eqb, eqb-true}
use Rattle.std.proofs.Math.Path.{ap}
use Rattle.std.proofs.Math.Seq.{take-length}
use mathlib.Core.List.{List, [], ◌∷◌, ◌++◌, Memᴰ}
use Rattle.std.proofs.lemmas.Bool.{eqb-false}
use Rattle.graph.specs.declared.Graph.{Graph}
use Rattle.graph.specs.declared.linearization.Search.{Search}
use Rattle.graph.specs.Limits.{unit_limit}
use Rattle.graph.specs.Linearize.{Out, order, ring, memb, from, and_then, each, visit, linearize}
use Rattle.graph.specs.Order.{Edge, Reaches, here, step, none}
use Rattle.graph.specs.Facts.{memb_false, mem_snoc, once_snoc, pigeonhole, path_join}
use Rattle.graph.specs.OrderTheorems.{Done, Apart, On, Post, on-push, trail_snoc, visit-right, done-once, done-reach, start}
use Rattle.graph.specs.Given.{deps_of}
use Rattle.graph.specs.State.{Sound, Fine, Ready, visit_of, Walked}
use Rattle.graph.specs.Position.{member-position, no_member-position}

-- the definition, a case at a time
module _ (deps : ℕ → List ℕ) (k : ℕ) (s o : List ℕ) (u : ℕ) where
  visit-done : memb u o ≡ true → visit deps (suc k) s o u ≡ order o
  unfolding visit
  visit-done e = rw e

  visit-ring : memb u o ≡ false → memb u s ≡ true → visit deps (suc k) s o u ≡ ring (from u s)
  unfolding visit
  visit-ring e e' = rw (e, e')

  visit-more : memb u o ≡ false → memb u s ≡ false
      → visit deps (suc k) s o u ≡ and_then (each (visit deps k (s ++ (u ∷ []))) u o (deps u)) (λ o'. order (o' ++ (u ∷ [])))
  unfolding visit
  visit-more e e' = rw (e, e')

or_false : (b : Bool) → b || false ≡ b
or_false true = refl
or_false false = refl

or_true : (b : Bool) → b || true ≡ true
or_true true = refl
or_true false = refl

memb_snoc : (y u : ℕ) (l : List ℕ) → memb y (l ++ (u ∷ [])) ≡ memb y l || eqb y u
unfolding memb
memb_snoc y u [] = or_false (eqb y u)
memb_snoc y u (x ∷ l) = go (eqb y x) (memb_snoc y u l)
  where
    go : (b : Bool) → memb y (l ++ (u ∷ [])) ≡ memb y l || eqb y u → b || memb y (l ++ (u ∷ [])) ≡ (b || memb y l) || eqb y u
    go true e = refl
    go false e = e

each-skip : (v : List ℕ → ℕ → Out) (u : ℕ) (o l : List ℕ) (i : ℕ) → i < length l → get_or l i 0 ≡ u → each v u o (drop i l) ≡ each v u o (drop (i + 1) l)
unfolding each
each-skip v u o l i h e = rw (add-one i, drop-cons l i 0 h, eq-eqb (get_or l i 0) u e)

each_take : (v : List ℕ → ℕ → Out) (u : ℕ) (o l : List ℕ) (i : ℕ) → i < length l → (get_or l i 0 ≡ u → ⊥)
    → each v u o (drop i l) ≡ and_then (v o (get_or l i 0)) (λ o'. each v u o' (drop (i + 1) l))
unfolding each
each_take v u o l i h f = rw (add-one i, drop-cons l i 0 h, ne_eqb (get_or l i 0) u f)

each-end : (v : List ℕ → ℕ → Out) (u : ℕ) (o l : List ℕ) (i : ℕ) → length l ≤ i → each v u o (drop i l) ≡ order o
unfolding each
each-end v u o l i h = rw (drop_of_length-le l h)

mem_get_d : (l : List ℕ) (i : ℕ) → i < length l → Memᴰ (get_or l i 0) l
mem_get_d [] i h = absurd (omega arith)
mem_get_d (x ∷ l) zero h = mathlib.Core.List.Memᴰ.head refl
mem_get_d (x ∷ l) (suc i) h = mathlib.Core.List.Memᴰ.tail (mem_get_d l i (omega arith))

path-below : (deps : ℕ → List ℕ) (n : ℕ) → ((u d : ℕ) → u < n → Memᴰ d (deps u) → d < n) → {u v : ℕ} → Reaches deps u v → u < n → v < n
path-below deps n f here h = h
path-below deps n f (step {u} {v} e p) h = path-below deps n f p (f u v h e.listed)

-- x with u off its stack and done
abbrev pub popped : Search → ℕ → Search
popped x u = record { visited = set x.visited u true; visiting = take (length x.visiting - 1) x.visiting; order = x.order ++ (u ∷ []) }

-- the units that u lists, where w's stack has u on it
abbrev pub each_of : Graph → Search → ℕ → List ℕ → List ℕ → Out
each_of g w u o l = each (visit (deps_of g) (suc g.units - length (w.visiting ++ (u ∷ []))) (w.visiting ++ (u ∷ []))) u o l

-- the loop's invariant: x is the walk after i of the units that u lists
pub record Turn (g : Graph) (w : Search) (u : ℕ) (x : Search) (i : ℕ) : Type 0 where
  pub fine : Fine x
  pub stack : x.visiting ≡ w.visiting ++ (u ∷ [])
  pub done : Done (deps_of g) x.order
  pub apart : Apart (deps_of g) (w.visiting ++ (u ∷ [])) x.order
  pub upto : i ≤ length (deps_of g u)
  pub rest : each_of g w u w.order (deps_of g u) ≡ each_of g w u x.order (drop i (deps_of g u))

module _ (g : Graph) (w : Search) (u : ℕ) (R : Ready g w u) where
  pub deep : length w.visiting ≤ g.units
  deep = pigeonhole g.units w.visiting R.on.once R.on.below

  pub u-small : u < unit_limit
  u-small = let S = R.sound in let b = R.below in omega arith

  fuel : suc g.units - length w.visiting ≡ suc (g.units - length w.visiting)
  fuel = let d = deep in omega arith

  -- where `position` finds u on the stack
  pub met : (p : ℕ) → Some p ≡ position (λ v. eqb v u) w.visiting → (s r : List ℕ) → s ≡ w.visiting → r ≡ take (length s - p) (drop p s) → visit_of g w u ≡ ring r
  met p at s r is e =
      let m = member-position u p w.visiting (sym at) in
      let all : take (length s - p) (drop p s) ≡ drop p s = rw (← length-drop p s) (take-length (drop p s)) in
      rw fuel (visit-ring _ _ _ _ _ R.new m.0 ∙ ap ring (m.1 ∙ sym (e ∙ (all ∙ ap (λ (l : List ℕ). drop p l) is))))

  module _ (off : ◌≡◌ {A = Option ℕ} None (position (λ v. eqb v u) w.visiting)) where
    not_on : memb u w.visiting ≡ false
    not_on = no_member-position u w.visiting (sym off)

    pushed_length : length (w.visiting ++ (u ∷ [])) ≡ length w.visiting + 1
    pushed_length = length-append w.visiting (u ∷ [])

    on' : On (deps_of g) g.units R.sound.within (w.visiting ++ (u ∷ [])) (g.units - length w.visiting)
    on' = on-push (deps_of g) g.units R.sound.within (rw fuel at R.on) (memb_false u w.visiting not_on) R.below R.reach

    off-walk : length w.visiting < g.units
    off-walk = omega (arith, pushed_length, pigeonhole g.units (w.visiting ++ (u ∷ [])) on'.once on'.below)

    pub room : length w.visiting < unit_limit
    room = let S = R.sound in let h = off-walk in omega arith

    -- the fuel of what u lists
    fuel' : suc g.units - length (w.visiting ++ (u ∷ [])) ≡ g.units - length w.visiting
    fuel' = let d = deep in omega (arith, pushed_length)

    fuel'' : suc g.units - length (w.visiting ++ (u ∷ [])) ≡ suc (g.units - length (w.visiting ++ (u ∷ [])))
    fuel'' = let h = off-walk in omega (arith, pushed_length)

    pub begin : (s : List ℕ) → s ≡ w.visiting ++ (u ∷ []) → Turn g w u (record { visited = w.visited; visiting = s; order = w.order }) 0
    begin s e =
        record {
          fine = record { long = R.fine.long; flags = R.fine.flags };
          stack = e;
          done = R.done;
          apart = λ y m m'. ⊎_elim (λ k. R.apart y k m') (λ q. memb_false u w.order R.new (mathlib.Core.List.Memᴰ.cast (sym q) m')) (mem_snoc w.visiting m);
          upto = omega arith;
          rest = refl;
        }

    -- the definition at w, by the walk of the units that u lists
    opened : visit_of g w u
        ≡ and_then (each_of g w u w.order (deps_of g u)) (λ o'. order (o' ++ (u ∷ [])))
    opened = rw (fuel, fuel') (visit-more _ _ _ _ _ R.new not_on)

    -- n is u as an index, and l what the code reads as its list
    module _ (n : ℕ) (l : List ℕ) (index : n ≡ u) (list : l ≡ deps_of g n) where
      listed : l ≡ deps_of g u
      listed = rw index at list

      module _ (x : Search) (i : ℕ) (T : Turn g w u x i) where
        module _ (more : i < length l) where
          within : i < length (deps_of g u)
          within = rw listed at more

          pub same_turn : get_or l i 0 ≡ u → Turn g w u x (i + 1)
          same_turn e =
              record {
                fine = T.fine;
                stack = T.stack;
                done = T.done;
                apart = T.apart;
                upto = let h = within in omega arith;
                rest = T.rest ∙ each-skip _ u x.order (deps_of g u) i within (rw listed at e);
              }

          module _ (d : ℕ) (is : d ≡ get_or l i 0) (ne : d ≡ u → ⊥) where
            is' : d ≡ get_or (deps_of g u) i 0
            is' = rw listed at is

            edge : Edge (deps_of g) u d
            edge = record { other = ne; listed = mathlib.Core.List.Memᴰ.cast is' (mem_get_d (deps_of g u) i within) }

            d-below : d < g.units
            d-below = R.sound.within.lists u d R.below edge.listed

            pub id_small : d < unit_limit
            id_small = let S = R.sound in let h = d-below in omega arith

            -- the walk of the list, from what it makes of d
            passed : (z : Out) → visit (deps_of g) (suc g.units - length (w.visiting ++ (u ∷ []))) (w.visiting ++ (u ∷ [])) x.order d ≡ z
                → each_of g w u w.order (deps_of g u) ≡ and_then z (λ o'. each_of g w u o' (drop (i + 1) (deps_of g u)))
            passed z res = T.rest ∙ each_take _ u x.order (deps_of g u) i within (λ q. ne (is' ∙ q)) ∙ rw (← is', res)

            flag_d : memb d x.order ≡ get_or x.visited d false
            flag_d = sym (T.fine.flags d id_small)

            pub done_turn : get_or x.visited d false ≡ true → Turn g w u x (i + 1)
            done_turn e =
                record {
                  fine = T.fine;
                  stack = T.stack;
                  done = T.done;
                  apart = T.apart;
                  upto = let h = within in omega arith;
                  rest = passed (order x.order) (rw fuel'' (visit-done _ _ _ _ _ (flag_d ∙ e)));
                }

            pub call_less : g.units - length x.visiting < g.units - length w.visiting
            call_less = let h = off-walk in omega (arith, pushed_length, ap (λ (k : List ℕ). length k) T.stack)

            module _ (new : get_or x.visited d false ≡ false) where
              pub call_ready : Ready g x d
              call_ready =
                  record {
                    sound = R.sound;
                    fine = T.fine;
                    on = rw (T.stack, fuel') on';
                    new = flag_d ∙ new;
                    done = T.done;
                    apart = rw T.stack T.apart;
                    trail = rw T.stack (trail_snoc (deps_of g) w.visiting R.trail edge);
                    below = d-below;
                    reach = path_join R.reach (step edge here);
                  }

              came : (z : Out) → visit_of g x d ≡ z → each_of g w u w.order (deps_of g u) ≡ and_then z (λ o'. each_of g w u o' (drop (i + 1) (deps_of g u)))
              came z e = passed z (rw T.stack at e)

              pub after_call : (y : Search) → Walked g x d y → Turn g w u y (i + 1)
              unfolding call_ready
              after_call y W =
                  let C = call_ready in
                  let Q = visit-right (deps_of g) g.units R.sound.within (suc g.units - length x.visiting) x.visiting x.order d C.on C.done C.apart C.trail C.below C.reach in
                  let P : Post (deps_of g) x.visiting x.order (λ o'. Memᴰ d o') (order y.order) = rw W.answer at Q in
                  record {
                    fine = W.fine;
                    stack = W.stack ∙ T.stack;
                    done = P.0.done;
                    apart = rw T.stack at P.0.apart;
                    upto = let h = within in omega arith;
                    rest = came (order y.order) W.answer;
                  }

              pub call_ring : (r : List ℕ) → visit_of g x d ≡ ring r → visit_of g w u ≡ ring r
              call_ring r e = opened ∙ ap (λ (z : Out). and_then z (λ o'. order (o' ++ (u ∷ [])))) (came (ring r) e)

        fresh : Memᴰ u x.order → ⊥
        fresh m = T.apart u (mathlib.Core.List.Memᴰ.append_right w.visiting (mathlib.Core.List.Memᴰ.head refl)) m

        pub some_visiting : 0 < length x.visiting
        some_visiting = omega (arith, pushed_length, ap (λ (k : List ℕ). length k) T.stack)

        pub order_room : length x.order < unit_limit
        order_room =
            let S = R.sound in
            omega (
              arith,
              length-append x.order (u ∷ []),
              pigeonhole g.units (x.order ++ (u ∷ [])) (once_snoc (done-once (deps_of g) T.done) fresh)
                  (λ y m. ⊎_elim (λ k. path-below (deps_of g) g.units R.sound.within.lists (done-reach (deps_of g) T.done y k) R.sound.within.some) (λ q. subst (λ (z : ℕ). z < g.units) (sym q) R.below) (mem_snoc x.order m)),
            )

        pub finish : length l ≤ i → Walked g w u (popped x u)
        finish all =
            record {
              answer = opened ∙ ap (λ (z : Out). and_then z (λ o'. order (o' ++ (u ∷ [])))) (T.rest ∙ each-end _ u x.order (deps_of g u) i (rw listed at all));
              fine = record {
                long = simp length-set T.fine.long;
                flags = λ y h. rw memb_snoc (flag y h (eqb y u) refl);
              };
              stack = rw (T.stack, pushed_length) (take_at w.visiting (u ∷ []) (length w.visiting + 1 - 1) (omega arith));
            }
          where
            flag : (y : ℕ) → y < unit_limit → (b : Bool) → eqb y u ≡ b → get_or (set x.visited u true) y false ≡ memb y x.order || b
            flag y h true e =
                rw (eqb-true y u e) (get_or-set_same x.visited u true false (let F = T.fine in let b = u-small in omega arith) ∙ sym (or_true (memb u x.order)))
            flag y h false e = get_or-set_other x.visited u y true false (eqb-false y u e) ∙ T.fine.flags y h ∙ sym (or_false (memb y x.order))

get_d_replicate : (n x : ℕ) → get_or (replicate n false) x false ≡ false
get_d_replicate zero x = refl
get_d_replicate (suc n) zero = refl
get_d_replicate (suc n) (suc x) = get_d_replicate n x

-- the walk as it begins
abbrev pub fresh_walk : Search
fresh_walk = record { visited = replicate unit_limit false; visiting = []; order = [] }

pub ready : (g : Graph) → Sound g → Ready g fresh_walk 0
unfolding memb
ready g S =
    record {
      sound = S;
      fine = record { long = refl; flags = λ x h. get_d_replicate unit_limit x };
      on = record { once = none; below = λ x m. absurd (mathlib.Core.List.Memᴰ.not-nil m); reach = λ x m. absurd (mathlib.Core.List.Memᴰ.not-nil m); left = omega arith };
      new = refl;
      done = start;
      apart = λ x m m'. mathlib.Core.List.Memᴰ.not-nil m;
      trail = record { begins = refl; chains = tt };
      below = S.within.some;
      reach = here;
    }

-- the definition's walk from unit 0, nothing visited or done
pub begun : (g : Graph) (s o : List ℕ) → s ≡ [] → o ≡ [] → linearize (deps_of g) g.units ≡ visit (deps_of g) (suc g.units - length s) s o 0
unfolding linearize
begun g s o p q = rw (p, q) (ap (λ (k : ℕ). visit (deps_of g) k [] [] 0) (omega arith))
