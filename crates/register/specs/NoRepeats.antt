-- No module holds two entries of one kind and name, so that the first is the one, as in a map. Assumes nothing.
use Rattle.std.specs.Prelude.{ℕ, ◌≡◌, refl, Bool, true, false, cond, ◌&&◌, List, [], ◌∷◌}
use Rattle.std.proofs.Common.{arith, sym, subst, ◌∙◌, eqb-true, eq-eqb}
use Rattle.names.specs.declared.Name.{Name}
use Rattle.names.specs.Packed.{same_name}
use Rattle.scope_tree.specs.Step.{same_refl, Head, Call, Found, missing, got, is_got}
use Rattle.scope_tree.specs.Register.{Scope, end, node, append, is, find, Opened, Register, shut, whole, leave, register, first_register, registered, tree_of}
use Rattle.scope_tree.specs.Sim.{SameFound, no_one, both, Simulation, run_ok}

-- each entry has none of its kind and name after it, in each module
abbrev pub Once : Scope → Type 0
Once end = Unit {0}
Once (node i h b f) = (find f h.kind h.name ≡ missing) × Once b × Once f

and_both : (a b : Bool) → a && b ≡ true → (a ≡ true) × (b ≡ true)
and_both true b e = (refl, e)
and_both false b e = let z : ◌≡◌ {A = ℕ} 0 1 = cc in absurd (omega arith)

same_true : (a b : Name) → same_name a b ≡ true → a ≡ b
unfolding same_name
same_true a b e =
    let p = and_both _ _ e in
    let q = and_both _ _ p.1 in
    let r = and_both _ _ q.1 in
    let e₀ = eqb-true a.w0 b.w0 p.0 in
    let e₁ = eqb-true a.w1 b.w1 q.0 in
    let e₂ = eqb-true a.w2 b.w2 r.0 in
    let e₃ = eqb-true a.w3 b.w3 r.1 in
    λ i. record { w0 = e₀ i; w1 = e₁ i; w2 = e₂ i; w3 = e₃ i }

is_true : (k : ℕ) (n : Name) (h : Head) → is k n h ≡ true → (h.kind ≡ k) × (h.name ≡ n)
is_true k n h e = let p = and_both _ _ e in (eqb-true h.kind k p.0, same_true h.name n p.1)

find-append : (c d : Scope) (k : ℕ) (n : Name) → find c k n ≡ missing → find (append c d) k n ≡ find d k n
unfolding find append
find-append end d k n e = refl
find-append (node i h b f) d k n e = go (is k n h) e (λ m. find-append f d k n m)
  where
    go : (t : Bool) → cond t (got i h b) (find f k n) ≡ missing → (find f k n ≡ missing → find (append f d) k n ≡ find d k n) → cond t (got i h b) (find (append f d) k n) ≡ find d k n
    go true e ih = let z : ◌≡◌ {A = ℕ} 0 1 = cc in absurd (omega arith)
    go false e ih = ih e

once-add : (c : Scope) (i : ℕ) (h : Head) (b : Scope) → Once c → find c h.kind h.name ≡ missing → Once b → Once (append c (node i h b end))
unfolding find append
once-add end i h b o m p = (refl, p, tt)
once-add (node j g d f) i h b o m p = go (is h.kind h.name g) refl m (λ m'. once-add f i h b o.2 m' p)
  where
    go : (t : Bool) → is h.kind h.name g ≡ t → cond t (got j g d) (find f h.kind h.name) ≡ missing → (find f h.kind h.name ≡ missing → Once (append f (node i h b end))) → Once (node j g d (append f (node i h b end)))
    go true q e ih = let z : ◌≡◌ {A = ℕ} 0 1 = cc in absurd (omega arith)
    go false q e ih = (find-append f (node i h b end) g.kind g.name o.0 ∙ other (is g.kind g.name h) refl, o.1, ih e)
      where
        other : (t : Bool) → is g.kind g.name h ≡ t → cond t (got i h b) missing ≡ missing
        other false r = refl
        other true r =
            let s = is_true g.kind g.name h r in
            let k : h.kind ≡ g.kind = s.0 in
            let n : h.name ≡ g.name = s.1 in
            let yes' : is h.kind h.name g ≡ true = rw (k, n, eq-eqb g.kind g.kind refl, same_refl g.name) in
            let z : ◌≡◌ {A = ℕ} 0 1 = cc in
            absurd (omega arith)

abbrev Opens : List Opened → Type 0
Opens [] = Unit {0}
Opens (o ∷ os) = Once o.before × (find o.before o.shows.kind o.shows.name ≡ missing) × Opens os

record Orderly (x r : Register) : Type 0 where
  equal : x ≡ r
  inner : Once r.inner
  outer : Opens r.outer

record Orderly' (r : Register) (c d : Scope) : Type 0 where
  equal : c ≡ d
  once : Once d

shut-once : (o : Opened) (c : Scope) → Once c → Once o.before → find o.before o.shows.kind o.shows.name ≡ missing → Once (shut o c)
shut-once o c a b m = once-add o.before o.id o.shows c b m a

whole-once : (os : List Opened) (c : Scope) → Once c → Opens os → Once (whole c os)
unfolding whole
whole-once [] c a b = a
whole-once (o ∷ os) c a b = whole-once os (shut o c) (shut-once o c a b.0 b.1) b.2

found-once : (c : Scope) (k : ℕ) (n : Name) (r : Register) → Once c → SameFound (Orderly' r) (λ i h. Unit {0}) (find c k n) (find c k n)
unfolding find
found-once end k n r o = no_one
found-once (node i h b f) k n r o = go (is k n h) (found-once f k n r o.2)
  where
    go : (t : Bool) → SameFound (Orderly' r) (λ i h. Unit {0}) (find f k n) (find f k n) → SameFound (Orderly' r) (λ i h. Unit {0}) (cond t (got i h b) (find f k n)) (cond t (got i h b) (find f k n))
    go true ih = both tt (record { equal = refl; once = o.1 })
    go false ih = ih

not-held : (f : Found Scope) → is_got f ≡ false → f ≡ missing
not-held missing e = refl
not-held (got i h c) e = let z : ◌≡◌ {A = ℕ} 0 1 = cc in absurd (omega arith)

close-once : (n : ℕ) (c : Scope) (os : List Opened) → Once c → Opens os → Orderly (leave n c os) (leave n c os)
close-once n c [] a b = record { equal = refl; inner = a; outer = tt }
close-once n c (o ∷ os) a b = record { equal = refl; inner = shut-once o c a b.0 b.1; outer = b.2 }

orderly : Simulation register register Orderly Orderly' (λ r i h. Unit {0})
unfolding find
orderly =
    record {
      empty_ok = λ r. record { equal = refl; once = tt };
      root_ok = λ x r q. record { equal = rw q.equal; once = whole-once r.outer r.inner q.inner q.outer };
      here_ok = λ x r q. record { equal = rw q.equal; once = q.inner };
      find_ok = λ r c d s k n. rw s.equal (found-once d k n r s.once);
      names_ok = λ x r q. rw q.equal;
      count_ok = λ x r q. rw q.equal;
      add_ok = λ x r h c d q t o s. record {
        equal = rw (q.equal, s.equal);
        inner = once-add r.inner r.total h d q.inner (not-held _ t) s.once;
        outer = q.outer;
      };
      add_stays = λ r h e c d s. record { equal = s.equal; once = s.once };
      open_ok = λ x r h q m k t. record {
        equal = rw q.equal;
        inner = tt;
        outer = (q.inner, subst (λ (z : ℕ). find r.inner z h.name ≡ missing) (sym k) (not-held _ t), q.outer);
      };
      close_ok = λ x r q. rw q.equal (close-once r.total r.inner r.outer q.inner q.outer);
    }

-- THE THEOREM
pub once : (cs : List Call) → Once (tree_of (registered cs).0)
unfolding find
once cs =
    let q = (run_ok orderly cs first_register first_register (record { equal = refl; inner = tt; outer = tt })).0 in
    whole-once _ _ q.inner q.outer
