-- What the accepted uses of a list of calls added, and where its chains start. 01: "everything an accepted use imported has an unbroken
-- chain of public entries to one public declaration", from the one its element names. Assumes nothing.
use Rattle.std.specs.Prelude.{ℕ, zero, suc, ◌≡◌, refl, Bool, true, false, cond, not, ◌&&◌, length, drop, get_or}
use Rattle.std.proofs.Common.{arith, subst, ◌∙◌}
use Rattle.std.proofs.Math.Path.{ap, sym}
use mathlib.Core.List.{List, [], ◌∷◌, ◌++◌}
use Rattle.names.specs.declared.Name.{Name}
use Rattle.scope_tree.specs.Step.{used, Head, head, Elem, Call, enter, exit, alias, enum, function, use', get_alias, get_function, bad, Answer, refused, Found, missing, got, held}
use Rattle.scope_tree.specs.Register.{Scope, end, node, append, is, find, Opened, Register, shut, whole, leave, register, first_register, tree_of}
use Rattle.scope_tree.specs.Note.{accepted, inner, along, bring, bring_all, noted, note, notes, register_of}
use Rattle.register.specs.Named.{Named, Each, Added, all_named}
use Rattle.register.specs.Chain.{In, here, inside, later, in_end, Chain}

-- an accepted use of the list, at its place: the calls before it, and those after it
pub record Use (cs : List Call) (as' : List Answer) : Type 0 where
  pub led : Bool
  pub path : List Name
  pub visible : Bool
  pub elems : List Elem
  pub before : List Call
  pub after : List Call
  pub split : cs ≡ before ++ (use' led path visible elems ∷ after)
  pub taken : accepted (get_or as' (length before) (refused 0)) ≡ true

-- the entry i, that shows h with b inside, is a public one that an element names in the module c; the tree T holds it, and a chain in T
-- starts at the one named
pub record Imported (T c : Scope) (v : Bool) (es : List Elem) (i : ℕ) (h : Head) (b : Scope) : Type 0 where
  pub named : Named c v es h b
  pub held : In i h T
  pub chain : Chain T named.number named.shows

-- the register before the use, and after it
abbrev pub was : {cs : List Call} {as' : List Answer} → Use cs as' → Register
was {as'} u = register_of u.before as'

abbrev pub became : {cs : List Call} {as' : List Answer} → Use cs as' → Register
became {as'} u = register_of (u.before ++ (use' u.led u.path u.visible u.elems ∷ [])) as'

-- the module of its path
abbrev pub module_of : {cs : List Call} {as' : List Answer} → Use cs as' → Scope
module_of u = along register u.path (tree_of (was u))

-- WHAT THE TREE HOLDS STAYS
in_left : {i : ℕ} {h : Head} (a b : Scope) → In i h a → In i h (append a b)
unfolding append
in_left {i = i} {h = h} end b m = elim m [ ]
in_left (node j g d f) b here = here
in_left (node j g d f) b (inside m) = inside m
in_left (node j g d f) b (later m) = later (in_left f b m)

in_right : {i : ℕ} {h : Head} (a b : Scope) → In i h b → In i h (append a b)
unfolding append
in_right end b m = m
in_right (node j g d f) b m = later (in_right f b m)

in_last : {i : ℕ} {h : Head} {c c' : Scope} (j : ℕ) (g : Head) (a : Scope) → (In i h c → In i h c') → In i h (append a (node j g c end)) → In i h (append a (node j g c' end))
unfolding append
in_last j g end k here = here
in_last j g end k (inside m) = inside (k m)
in_last j g end k (later m) = later m
in_last j g (node j' g' d f) k here = here
in_last j g (node j' g' d f) k (inside m) = inside m
in_last j g (node j' g' d f) k (later m) = later (in_last j g f k m)

in_whole : {i : ℕ} {h : Head} (os : List Opened) (c c' : Scope) → (In i h c → In i h c') → In i h (whole c os) → In i h (whole c' os)
unfolding whole
in_whole [] c c' k m = k m
in_whole (o ∷ os) c c' k m = in_whole os (shut o c) (shut o c') (in_last o.id o.shows o.before k) m

in_inner : {i : ℕ} {h : Head} (os : List Opened) (c : Scope) → In i h c → In i h (whole c os)
unfolding whole
in_inner [] c m = m
in_inner (o ∷ os) c m = in_inner os (shut o c) (in_right o.before (node o.id o.shows c end) (inside m))

stays-bring : {i : ℕ} {h : Head} (v : Bool) (l : Name) (f : Found Scope) (r : Register) → In i h (tree_of r) → In i h (tree_of (bring register v l f r))
stays-bring v l missing r m = m
stays-bring {i} {h} v l (got j g c) r m = go (g.vis && not (held register r g.kind l))
  where
    go : (b : Bool) → In i h (tree_of (cond b (register.add r (head g.kind l v g.mark (used j)) c) r))
    go true = in_whole r.outer r.inner (append r.inner (node r.total (head g.kind l v g.mark (used j)) c end)) (in_left r.inner _) m
    go false = m

stays_all : {i : ℕ} {h : Head} (c : Scope) (v : Bool) (es : List Elem) (r : Register) → In i h (tree_of r) → In i h (tree_of (bring_all register c v es r))
unfolding bring_all
stays_all c v [] r m = m
stays_all c v (e ∷ es) r m =
    stays_all c v es _
    (stays-bring v e.local (find c 3 e.name) _ (stays-bring v e.local (find c 2 e.name) _ (stays-bring v e.local (find c 1 e.name) r m)))

stays-shut : {i : ℕ} {h : Head} (n : ℕ) (c : Scope) (os : List Opened) → In i h (whole c os) → In i h (tree_of (leave n c os))
unfolding whole
stays-shut n c [] m = m
stays-shut n c (o ∷ os) m = m

stays-noted : {i : ℕ} {h : Head} (c : Call) (r : Register) → In i h (tree_of r) → In i h (tree_of (noted register c r))
unfolding whole
stays-noted (enter n v k) r m = in_whole r.outer r.inner (append r.inner (node r.total _ end end)) (in_left r.inner _) m
stays-noted exit r m = stays-shut r.total r.inner r.outer m
stays-noted (alias n v k) r m = in_whole r.outer r.inner (append r.inner (node r.total _ end end)) (in_left r.inner _) m
stays-noted (enum n v k) r m = in_whole r.outer r.inner (append r.inner (node r.total _ end end)) (in_left r.inner _) m
stays-noted (function n v k) r m = in_whole r.outer r.inner (append r.inner (node r.total _ end end)) (in_left r.inner _) m
stays-noted (use' led p v es) r m = stays_all (along register p (tree_of r)) v es r m
stays-noted (get_alias n) r m = m
stays-noted (get_function n) r m = m
stays-noted (bad n) r m = m

stays : {i : ℕ} {h : Head} (cs : List Call) (as' : List Answer) (r : Register) → In i h (tree_of r) → In i h (tree_of (notes register r cs as'))
unfolding notes
stays [] as' r m = m
stays (c ∷ cs) [] r m = m
stays {i} {h} (c ∷ cs) (a ∷ as') r m = stays cs as' _ (go (accepted a))
  where
    go : (b : Bool) → In i h (tree_of (note register r c b))
    go true = stays-noted c r m
    go false = m

-- WHAT A PATH AND A NAME LEAD TO IS IN THE TREE
in_found : (c : Scope) (k : ℕ) (n : Name) (i : ℕ) (h : Head) (b : Scope) → find c k n ≡ got i h b → In i h c
unfolding find
in_found end k n i h b e = let z : ◌≡◌ {A = ℕ} 0 1 = cc in absurd (omega arith)
in_found (node j g d f) k n i h b e = go (is k n g) e (in_found f k n i h b)
  where
    go : (t : Bool) → cond t (got j g d) (find f k n) ≡ got i h b → (find f k n ≡ got i h b → In i h f) → In i h (node j g d f)
    go true e ih =
        let p : j ≡ i = cc in
        let q : g ≡ h = cc in
        rw (p, q) here
    go false e ih = later (ih e)

in_inside : {t : ℕ} {g' : Head} (c : Scope) (k : ℕ) (n : Name) (i : ℕ) (h : Head) (b : Scope) → find c k n ≡ got i h b → In t g' b → In t g' c
unfolding find
in_inside end k n i h b e m = let z : ◌≡◌ {A = ℕ} 0 1 = cc in absurd (omega arith)
in_inside {t} {g'} (node j g d f) k n i h b e m = go (is k n g) e (λ e'. in_inside f k n i h b e' m)
  where
    go : (u : Bool) → cond u (got j g d) (find f k n) ≡ got i h b → (find f k n ≡ got i h b → In t g' f) → In t g' (node j g d f)
    go true e ih = let p : b ≡ d = cc in inside (rw p at m)
    go false e ih = later (ih e)

in_along : {i : ℕ} {h : Head} (p : List Name) (c : Scope) → In i h (along register p c) → In i h c
unfolding along
in_along [] c m = m
in_along {i} {h} (n ∷ p) c m = go (find c 3 n) refl (in_along p _ m)
  where
    go : (f : Found Scope) → find c 3 n ≡ f → In i h (inner register f) → In i h c
    go missing q m = absurd (in_end end refl m)
    go (got j g b) q m = in_inside c 3 n j g b q m

-- THE CALLS OF A LIST, SPLIT
notes-append : (xs ys : List Call) (as' : List Answer) (r : Register) → notes register r (xs ++ ys) as' ≡ notes register (notes register r xs as') ys (drop (length xs) as')
unfolding notes
notes-append [] ys as' r = refl
notes-append (x ∷ xs) [] [] r = refl
notes-append (x ∷ xs) (y ∷ ys) [] r = refl
notes-append (x ∷ xs) ys (a ∷ as') r = notes-append xs ys as' (note register r x (accepted a))

-- an accepted answer is there
answered : (as' : List Answer) (n : ℕ) → accepted (get_or as' n (refused 0)) ≡ true → drop n as' ≡ get_or as' n (refused 0) ∷ drop (suc n) as'
answered [] n e = let z : ◌≡◌ {A = ℕ} 0 1 = cc in absurd (omega arith)
answered (a ∷ as') zero e = refl
answered (a ∷ as') (suc n) e = answered as' n e

each_in : (P Q : ℕ → Head → Scope → Type 0) (a : Scope) → ((i : ℕ) (h : Head) (b : Scope) → In i h a → P i h b → Q i h b) → Each P a → Each Q a
each_in P Q end f p = tt
each_in P Q (node i h b g) f p = (f i h b here p.0, each_in P Q g (λ i' h' b' m. f i' h' b' (later m)) p.1)

module _ {cs : List Call} {as' : List Answer} (u : Use cs as') where
  abbrev call : Call
  call = use' u.led u.path u.visible u.elems

  -- what the use made of the register is what 01 says it adds
  pub brings : became u ≡ bring_all register (module_of u) u.visible u.elems (was u)
  unfolding register_of notes
  brings =
      notes-append u.before (call ∷ []) as' first_register
      ∙ ap (notes register (was u) (call ∷ [])) (answered as' (length u.before) u.taken)
      ∙ ap (note register (was u) call) u.taken

  ends : register_of cs as' ≡ notes register (became u) u.after (drop (suc (length u.before)) as')
  unfolding register_of notes
  ends =
      ap (λ (l : List Call). notes register first_register l as') u.split
      ∙ notes-append u.before (call ∷ u.after) as' first_register
      ∙ ap (notes register (was u) (call ∷ u.after)) (answered as' (length u.before) u.taken)
      ∙ ap (λ (r : Register). notes register r u.after (drop (suc (length u.before)) as')) (ap (note register (was u) call) u.taken ∙ sym brings)

  kept : {i : ℕ} {h : Head} → In i h (tree_of (became u)) → In i h (tree_of (register_of cs as'))
  kept {i} {h} m = subst (λ (r : Register). In i h (tree_of r)) (sym ends) (stays u.after (drop (suc (length u.before)) as') (became u) m)

  -- what was in the tree before the use stays
  kept-before : {i : ℕ} {h : Head} → In i h (tree_of (was u)) → In i h (tree_of (register_of cs as'))
  kept-before {i} {h} m =
      kept (subst (λ (r : Register). In i h (tree_of r)) (sym brings) (stays_all (module_of u) u.visible u.elems (was u) m))

  -- THE THEOREM: where the public entries of the tree have their chains, whatever the use added is a public entry that an element of it
  -- names in the module of its path, under the local name, with its mark and the use's visibility, and a chain starts there
  pub imported : ((i : ℕ) (h : Head) → In i h (tree_of (register_of cs as')) → h.vis ≡ true → Chain (tree_of (register_of cs as')) i h)
      → Added (Imported (tree_of (register_of cs as')) (module_of u) u.visible u.elems) (was u) (became u)
  imported chains =
      let a : Added (λ i. Named (module_of u) u.visible u.elems) (was u) (became u) =
      subst (Added (λ i. Named (module_of u) u.visible u.elems) (was u)) (sym brings) (all_named (module_of u) u.visible u.elems (was u)) in
      record {
        added = a.added;
        inner = a.inner;
        outer = a.outer;
        each = each_in _ _ a.added
            (λ i h b m n. record {
              named = n;
              held = kept (in_inner (became u).outer (became u).inner (rw a.inner (in_right (was u).inner a.added m)));
              chain = chains n.number n.shows (kept-before (in_along u.path (tree_of (was u)) (in_found (module_of u) n.kind n.elem.name n.number n.shows b n.found))) n.visible;
            }) a.each;
      }
