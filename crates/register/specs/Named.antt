-- What an accepted use adds: each entry is a public one that an element names, under its local name. Assumes nothing.
use Rattle.std.specs.Prelude.{ℕ, ◌≡◌, Bool, true, false, cond, not, ◌&&◌}
use Rattle.std.proofs.Math.Path.{refl}
use Rattle.std.proofs.Common.{sym, ◌∙◌}
use mathlib.Core.List.{List, [], ◌∷◌, Memᴰ}
use Rattle.scope_tree.specs.Step.{copy_of, Head, Elem, Found, missing, got, held}
use Rattle.scope_tree.specs.Register.{Scope, end, node, append, find, Register, register}
use Rattle.scope_tree.specs.Laws.{append-end}
use Rattle.scope_tree.specs.Note.{bring, bring_all}

-- h, with b inside, is what the element e of the use names in the module c
pub record Named (c : Scope) (v : Bool) (es : List Elem) (h : Head) (b : Scope) : Type 0 where
  pub elem : Elem
  pub listed : Memᴰ elem es
  pub kind : ℕ
  pub number : ℕ
  pub shows : Head
  pub found : find c kind elem.name ≡ got number shows b
  pub visible : shows.vis ≡ true
  pub is : h ≡ copy_of number shows elem.local v

-- P of each entry of a module: its number, what it shows, what is inside it
abbrev pub Each : (ℕ → Head → Scope → Type 0) → Scope → Type 0
Each P end = Unit {0}
Each P (node i h b f) = P i h b × Each P f

-- r' is r with entries more in its innermost open module, each of which P holds of
pub record Added (P : ℕ → Head → Scope → Type 0) (r r' : Register) : Type 0 where
  pub added : Scope
  pub inner : r'.inner ≡ append r.inner added
  pub outer : r'.outer ≡ r.outer
  pub each : Each P added

append-append : (a b c : Scope) → append (append a b) c ≡ append a (append b c)
unfolding append
append-append end b c = refl
append-append (node i h d f) b c = rw (append-append f b c)

each_append : (P : ℕ → Head → Scope → Type 0) (a b : Scope) → Each P a → Each P b → Each P (append a b)
unfolding append
each_append P end b p q = q
each_append P (node i h d f) b p q = (p.0, each_append P f b p.1 q)

each_map : (P Q : ℕ → Head → Scope → Type 0) → ((i : ℕ) (h : Head) (b : Scope) → P i h b → Q i h b) → (a : Scope) → Each P a → Each Q a
each_map P Q f end p = tt
each_map P Q f (node i h d g) p = (f i h d p.0, each_map P Q f g p.1)

then : {P : ℕ → Head → Scope → Type 0} {r s t : Register} → Added P r s → Added P s t → Added P r t
then {P} {r} a b =
    record {
      added = append a.added b.added;
      inner = b.inner ∙ (rw (a.inner, append-append));
      outer = b.outer ∙ a.outer;
      each = each_append P a.added b.added a.each b.each;
    }

nothing : {P : ℕ → Head → Scope → Type 0} {r : Register} → Added P r r
nothing {r} = record { added = end; inner = sym (append-end r.inner); outer = refl; each = tt }

module _ (c : Scope) (v : Bool) where
  brought : (e : Elem) (es : List Elem) (k : ℕ) (r : Register) → Memᴰ e es → Added (λ i. Named c v es) r (bring register v e.local (find c k e.name) r)
  brought e es k r m = go (find c k e.name) refl
    where
      go : (f : Found Scope) → find c k e.name ≡ f → Added (λ i. Named c v es) r (bring register v e.local f r)
      go missing q = nothing
      go (got i h b) q = pick h.vis (held register r h.kind e.local) refl
        where
          pick : (t u : Bool) → h.vis ≡ t → Added (λ i. Named c v es) r (cond (t && not u) (register.add r (copy_of i h e.local v) b) r)
          pick true true p = nothing
          pick true false p =
              record {
                added = node r.total (copy_of i h e.local v) b end;
                inner = refl;
                outer = refl;
                each = (record { elem = e; listed = m; kind = k; number = i; shows = h; found = q; visible = p; is = refl }, tt);
              }
          pick false u p = nothing

  more : (e : Elem) (es : List Elem) {r s : Register} → Added (λ i. Named c v es) r s → Added (λ i. Named c v (e ∷ es)) r s
  more e es a =
      record {
        added = a.added;
        inner = a.inner;
        outer = a.outer;
        each = each_map _ _ (λ i h b n. record { elem = n.elem; listed = mathlib.Core.List.Memᴰ.tail n.listed; kind = n.kind; number = n.number; shows = n.shows; found = n.found; visible = n.visible; is = n.is }) a.added a.each;
      }

  -- THE THEOREM
  pub all_named : (es : List Elem) (r : Register) → Added (λ i. Named c v es) r (bring_all register c v es r)
  unfolding bring_all
  all_named [] r = nothing
  all_named (e ∷ es) r =
      let m : Memᴰ e (e ∷ es) = mathlib.Core.List.Memᴰ.head refl in
      then (brought e (e ∷ es) 1 r m) (then (brought e (e ∷ es) 2 _ m) (then (brought e (e ∷ es) 3 _ m) (more e es (all_named es _))))
