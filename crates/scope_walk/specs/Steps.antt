-- The scope walk as the code makes it: call by call over a tree's arrays, up to the first that is refused. Assumes nothing.
use Rattle.std.specs.Prelude.{ℕ, suc, ◌+◌, ◌-◌, ◌≤◌, ◌<◌, true, cond, ◌≡◌, refl, eqb, length, Option, Some, None, Result, Ok, Err}
use Rattle.std.specs.List.{flat_map}
use native.Mathlib.Omega.{arith}
use Rattle.std.proofs.Common.{sym, ap, ◌∙◌, eq-eqb, ne_eqb}
use Rattle.std.proofs.Math.Path.{subst}
use mathlib.Core.List.{List, [], ◌∷◌, ◌++◌, append_assoc, Memᴰ}
use Rattle.refusal.specs.declared.Cause.{Cause}
use Rattle.refusal.specs.declared.Refusal.{Refusal}
use Rattle.refusal.specs.Numbers.{number_of as number}
use Rattle.bundle.specs.Bundle.{Text, Items, none, named, use_of, module_of, ignored}
use Rattle.bundle.specs.Form.{Every, FormedElement}
use Rattle.bundle.specs.Limits.{element_limit, use_kind, module_kind, ignored_kind}
use Rattle.bundle.specs.Scan.{byte, text}
use Rattle.bundle.specs.Decode.{after, after_length, item_at, items_at, decode}
use Rattle.bundle.specs.Access.{inside_of, items-step, item_module, item_use, item-ignored, item-named, by_kind, kind_of, inner_of}
use Rattle.scope_tree.specs.Form.{Request, enters, exits, resolves_use, call_of}
use Rattle.scopes.specs.Meets.{Meets, number_of_told, declares, left}
use Rattle.scope_tree.specs.Note.{accepted}
use Rattle.scope_tree.specs.Views.{told}
use Rattle.scope_tree.specs.Told.{Told, Done, Mark, Refused, call_told, number-some}
use Rattle.scope_tree.specs.Step.{Answer, ok, marked, refused, Model, step}
use Rattle.scope_tree.specs.Flat.{Flat, flat}
use Rattle.scope_tree.specs.Trees.{Good, flat_of}
use Rattle.scope_tree.specs.declared.Tree.{Tree}
use Rattle.discovery.specs.Discovery.{Use}
use Rattle.discovery.specs.Walk.{use_at}
use Rattle.assembly.specs.Assemble.{rewrite_use, rewrite_items}
use Rattle.assembly.specs.Paths.{FormedPath}
use Rattle.bundle.specs.Places.{places, places_none, places_more, over_places}
use Rattle.assembly.specs.Walk.{segments_at, elements_at, use_bytes, one_at, by_place, inside_is, NamedAt}
use Rattle.scope_walk.specs.Scopes.{Asked, asked, is_public, scope_calls, Walked, done, stopped, onwards, walk_from}

-- CALLS ONE AFTER ANOTHER
abbrev and_then : {X : Type 0} → Walked X → (X → Walked X) → Walked X
and_then (done y) k = k y
and_then (stopped n p) k = stopped n p

pub walk-append : {X C : Type 0} (M : Model X C) (x : X) (l k : List Asked) → walk_from M x (l ++ k) ≡ and_then (walk_from M x l) (λ y. walk_from M y k)
unfolding walk_from
walk-append M x [] k = refl
walk-append {X} M x (a ∷ l) k = go (step M x (call_of a.request)).1 (step M x (call_of a.request)).0 (λ y. walk-append M y l k)
  where
    go : (w : Answer) (y : X) → ((z : X) → walk_from M z (l ++ k) ≡ and_then (walk_from M z l) (λ z'. walk_from M z' k))
        → onwards y w a.place (λ z. walk_from M z (l ++ k)) ≡ and_then (onwards y w a.place (λ z. walk_from M z l)) (λ z. walk_from M z k)
    go ok y h = h y
    go (marked m) y h = h y
    go (refused n) y h = refl

-- where a walk ended: 0, or the number and the place of the call that was refused
pub record Stop : Type 0 where
  pub number : ℕ
  pub place : ℕ

abbrev pub stop_at : ℕ → ℕ → Stop
stop_at number place = record { number = number; place = place }

-- the same of what the code answers
abbrev pub stop_of : {A : Type 0} → Result A Refusal → Stop
stop_of (Ok x) = stop_at 0 0
stop_of (Err e) = stop_at (number e.cause) e.place

-- what a stop tells: 0 and the tree, or a number and a place
abbrev pub reached : Stop → Flat → Walked Flat
reached r x = cond (eqb r.number 0) (done x) (stopped r.number r.place)

-- the calls l on the arrays t left u, and came to r
pub record Walks (t : Tree) (l : List Asked) (r : Stop) (u : Tree) : Type 0 where
  pub good : Good t → Good u
  pub walked : Good t → walk_from flat (flat_of t) l ≡ reached r (flat_of u)

pub walks_as : {t u : Tree} {l k : List Asked} {r : Stop} → l ≡ k → Walks t k r u → Walks t l r u
walks_as {t} {u} {l} {k} {r} e h = subst (λ (x : List Asked). Walks t x r u) (sym e) h

pub walks_none : (t : Tree) (r : Stop) → r.number ≡ 0 → Walks t [] r t
unfolding walk_from
walks_none t r e = record { good = λ g. g; walked = λ g. rw (eq-eqb r.number 0 e) }

pub walks_one : (t : Tree) (q : Request) (a : Told) (u : Tree) → Meets t q (left a u) → (r : Stop) (p : ℕ) → r.number ≡ number_of_told a → r.place ≡ p → Walks t (asked p q ∷ []) r u
unfolding walk_from
walks_one t q a u h r p e f = record { good = h.good; walked = λ g. come a (h.answer g) (h.tree g) h.numbered ∙ back }
  where
    come : (x : Told) → told x ≡ (step flat (flat_of t) (call_of q)).1 → flat_of u ≡ (step flat (flat_of t) (call_of q)).0 → (number_of_told x ≡ 0 → accepted (told x) ≡ true)
        → onwards (step flat (flat_of t) (call_of q)).0 (step flat (flat_of t) (call_of q)).1 p (λ y. done y) ≡ cond (eqb (number_of_told x) 0) (done (flat_of u)) (stopped (number_of_told x) p)
    come Done b c d = ap (λ (z : Answer). onwards (step flat (flat_of t) (call_of q)).0 z p (λ y. done y)) (sym b) ∙ ap done (sym c)
    come (Mark m) b c d = ap (λ (z : Answer). onwards (step flat (flat_of t) (call_of q)).0 z p (λ y. done y)) (sym b) ∙ ap done (sym c)
    come (Refused n) b c d =
        let z : n ≡ 0 → ⊥ = λ y. let x = d y in let o : ◌≡◌ {A = ℕ} 0 1 = cc in omega arith in
        ap (λ (z : Answer). onwards (step flat (flat_of t) (call_of q)).0 z p (λ y. done y)) (sym b) ∙ rw (ne_eqb n 0 z)

    back : cond (eqb (number_of_told a) 0) (done (flat_of u)) (stopped (number_of_told a) p) ≡ reached r (flat_of u)
    back = rw (e, f)

module _ {t u : Tree} {l : List Asked} {r : Stop} (h : Walks t l r u) where
  pub walks_then : {k : List Asked} {r' : Stop} {w : Tree} → r.number ≡ 0 → Walks u k r' w → Walks t (l ++ k) r' w
  walks_then {k} {r'} {w} e i =
      record {
        good = λ g. i.good (h.good g);
        walked = λ g.
            walk-append flat (flat_of t) l k
            ∙ (ap (λ (x : Walked Flat). and_then x (λ y. walk_from flat y k)) (h.walked g ∙ on_with)
            ∙ i.walked (h.good g));
      }
    where
      on_with : reached r (flat_of u) ≡ done (flat_of u)
      on_with = rw (eq-eqb r.number 0 e)

  pub walks_stop : (k : List Asked) → (r.number ≡ 0 → ⊥) → Walks t (l ++ k) r u
  walks_stop k e =
      record {
        good = h.good;
        walked = λ g.
            walk-append flat (flat_of t) l k
            ∙ (ap (λ (x : Walked Flat). and_then x (λ y. walk_from flat y k)) (h.walked g ∙ at-end) ∙ sym at-end);
      }
    where
      at-end : reached r (flat_of u) ≡ stopped r.number r.place
      at-end = rw (ne_eqb r.number 0 e)

-- THE CALLS OF A UNIT'S ITEMS: of one item, and of items one after the other
unfoldable pub item_calls : List ℕ → Text → ℕ → ℕ → List Asked
item_calls s file depth at = scope_calls (rewrite_items (rewrite_use (decode s) file) (one_at depth s at))

unfoldable pub items_calls : List ℕ → Text → ℕ → ℕ → ℕ → List Asked
items_calls s file depth end at = scope_calls (rewrite_items (rewrite_use (decode s) file) (items_at depth s end at))

calls_first : (s : List ℕ) (file : Text) (depth at : ℕ) (rest : Items)
    → scope_calls (rewrite_items (rewrite_use (decode s) file) (item_at (inside_of depth s) s at rest)) ≡ item_calls s file depth at ++ scope_calls (rewrite_items (rewrite_use (decode s) file) rest)
unfolding item_calls scope_calls rewrite_items
calls_first s file depth at rest =
    by_kind (inside_of depth s) s at rest
    (λ i. scope_calls (rewrite_items (rewrite_use (decode s) file) i) ≡ scope_calls (rewrite_items (rewrite_use (decode s) file) (one_at depth s at)) ++ scope_calls (rewrite_items (rewrite_use (decode s) file) rest))
    (λ k. rw (item_module (inside_of depth s) s at none k) (ap (λ (l : List Asked). asked at (enters (text s (at + 4)) (is_public (byte s (at + 3))) at) ∷ l)
    (sym (append_assoc (scope_calls (rewrite_items (rewrite_use (decode s) file) (inside_of depth s (after_length s at) (after s (at + 4))))) (asked at exits ∷ []) (scope_calls (rewrite_items (rewrite_use (decode s) file) rest))))))
    (λ k. let n : byte s (at + 2) ≡ module_kind → ⊥ = λ (e : byte s (at + 2) ≡ module_kind). omega arith in
    rw (item_use (inside_of depth s) s at none n k))
    (λ k. let n : byte s (at + 2) ≡ module_kind → ⊥ = λ (e : byte s (at + 2) ≡ module_kind). omega arith in
    let m : byte s (at + 2) ≡ use_kind → ⊥ = λ (e : byte s (at + 2) ≡ use_kind). omega arith in
    rw (item-ignored (inside_of depth s) s at none n m k))
    (λ n m l. rw (item-named (inside_of depth s) s at none n m l))

-- items by their places
pub calls-places : (s : List ℕ) (file : Text) (depth end at : ℕ) → items_calls s file depth end at ≡ flat_map (item_calls s file depth) (places s end at)
unfolding items_calls scope_calls rewrite_items
calls-places s file depth end at =
    over_places depth s (λ i. scope_calls (rewrite_items (rewrite_use (decode s) file) i)) (item_calls s file depth) refl (λ a rest. calls_first s file depth a rest) end at

-- AN ITEM BY ITS KIND, as the code reads it
module _ (s : List ℕ) (at : ℕ) (file : Text) (depth : ℕ) where
  pub ignored-calls : byte s (at + 2) ≡ ignored_kind → item_calls s file depth at ≡ []
  unfolding item_calls scope_calls rewrite_items
  ignored-calls b =
      rw (item-ignored (inside_of depth s) s at none (λ (q : byte s (at + 2) ≡ module_kind). omega arith) (λ (q : byte s (at + 2) ≡ use_kind). omega arith) b)

  pub use_calls : byte s (at + 2) ≡ use_kind → item_calls s file depth at ≡ asked at (resolves_use (use_bytes s file at) (is_public (byte s (at + 3)))) ∷ []
  unfolding item_calls scope_calls rewrite_items use_bytes
  use_calls b = rw (item_use (inside_of depth s) s at none (λ (q : byte s (at + 2) ≡ module_kind). omega arith) b)

  pub named-calls : (n : ℕ) → NamedAt s at n → item_calls s file depth at ≡ asked at (declares n (text s (at + 4)) (is_public (byte s (at + 3))) at) ∷ []
  unfolding item_calls scope_calls rewrite_items
  named-calls n t = rw (item-named (inside_of depth s) s at none t.no_module t.no_use t.no_ignored, t.is)

  -- what is inside a module
  unfoldable pub inside_calls : List Asked
  inside_calls = scope_calls (rewrite_items (rewrite_use (decode s) file) (inside_of depth s (after_length s at) (after s (at + 4))))

  module _ (b : byte s (at + 2) ≡ module_kind) where
    pub module_calls : item_calls s file depth at ≡ asked at (enters (text s (at + 4)) (is_public (byte s (at + 3))) at) ∷ (inside_calls ++ (asked at exits ∷ []))
    unfolding item_calls scope_calls rewrite_items inside_calls
    module_calls = rw (item_module (inside_of depth s) s at none b) refl

    pub inside_none : depth ≡ 0 → inside_calls ≡ []
    unfolding scope_calls rewrite_items inside_calls
    inside_none z = rw z refl

    pub inside_some : (end' at' : ℕ) → 0 < depth
        → ((d e : ℕ) → at < e → kind_of (items_at (suc d) s e at) ≡ module_kind → items_at d s end' at' ≡ inner_of (items_at (suc d) s e at))
        → inside_calls ≡ items_calls s file (depth - 1) end' at'
    unfolding items_calls inside_calls
    inside_some end' at' z inner = ap (λ (i : Items). scope_calls (rewrite_items (rewrite_use (decode s) file) i)) (inside_is s at b depth end' at' z inner)

-- WHAT THE CODE NEEDS OF THE ITEMS: two bytes hold a mark, and a use is in form, so that it fits its place, and one of the given uses
unfoldable pub Plain : List Use → Items → Type 0
Plain us none = Unit {0}
Plain us (named head rest) = (head.mark < 65536) × Plain us rest
Plain us (use_of m v segments elements rest) =
    ((m < 65536) × (FormedPath segments × ((length elements ≤ element_limit) × Every FormedElement elements)) × Memᴰ (record { mark = m; segments = segments }) us) × Plain us rest
Plain us (module_of m v name inner rest) = (m < 65536) × (Plain us inner × Plain us rest)
Plain us (ignored m v rest) = Plain us rest

plain-item : (us : List Use) (inside : ℕ → ℕ → Items) (s : List ℕ) (at : ℕ) (rest : Items) → Plain us (item_at inside s at rest) → Plain us (item_at inside s at none) × Plain us rest
unfolding Plain
plain-item us inside s at rest =
    by_kind inside s at rest (λ i. Plain us i → Plain us (item_at inside s at none) × Plain us rest)
    (λ k f. (rw (item_module inside s at none k) (f.0, (f.1.0, tt)), f.1.1))
    (λ k f. (rw (item_use inside s at none (λ (e : byte s (at + 2) ≡ module_kind). omega arith) k) (f.0, tt), f.1))
    (λ k f. (rw (item-ignored inside s at none (λ (e : byte s (at + 2) ≡ module_kind). omega arith) (λ (e : byte s (at + 2) ≡ use_kind). omega arith) k) tt, f))
    (λ n m l f. (rw (item-named inside s at none n m l) (f.0, tt), f.1))

-- at each place
pub plain-places : (us : List Use) (s : List ℕ) (depth end at : ℕ) → Plain us (items_at depth s end at) → Every (λ a. (a < end) × Plain us (one_at depth s a)) (places s end at)
unfolding Every
plain-places us s depth end =
    by_place s end (λ a. Plain us (items_at depth s end a) → Every (λ c. (c < end) × Plain us (one_at depth s c)) (places s end a))
    (λ a h f. rw (places_none s end a h) tt)
    (λ a h k f. let t = plain-item us (inside_of depth s) s a (items_at depth s end (after_length s a)) (subst (Plain us) (items-step depth s end a h) f) in
    rw (places_more s end a h) ((h, t.0), k t.1))

-- a use whose bytes fit their place
abbrev pub Fitting : List ℕ → ℕ → Type 0
Fitting s at = (at < 65536) × (FormedPath (segments_at s at) × ((length (elements_at s at) ≤ element_limit) × Every FormedElement (elements_at s at)))

module _ (us : List Use) (s : List ℕ) (at depth : ℕ) (b : Plain us (one_at depth s at)) where
  module _ (q : byte s (at + 2) ≡ use_kind) where
    is_use : one_at depth s at ≡ use_of at (byte s (at + 3)) (segments_at s at) (elements_at s at) none
    is_use = item_use (inside_of depth s) s at none (λ (x : byte s (at + 2) ≡ module_kind). omega arith) q

    pub plain_use : Fitting s at × Memᴰ (use_at s at) us
    unfolding Plain
    plain_use = let f = (subst (Plain us) is_use b).0 in ((f.0, f.1), f.2)

  pub plain-mark : (byte s (at + 2) ≡ ignored_kind → ⊥) → at < 65536
  unfolding Plain
  plain-mark n6 =
      by_kind (inside_of depth s) s at none (λ i. Plain us i → at < 65536)
      (λ q f. f.0) (λ q f. f.0.0) (λ q f. absurd (n6 q)) (λ n m l f. f.0) b

  pub plain-inside : (end' at' : ℕ) → byte s (at + 2) ≡ module_kind → 0 < depth
      → ((d e : ℕ) → at < e → kind_of (items_at (suc d) s e at) ≡ module_kind → items_at d s end' at' ≡ inner_of (items_at (suc d) s e at))
      → Plain us (items_at (depth - 1) s end' at')
  unfolding Plain
  plain-inside end' at' m z inner = subst (Plain us) (inside_is s at m depth end' at' z inner) (subst (Plain us) (item_module (inside_of depth s) s at none m) b).1.0

-- WHAT THE CALLS THAT ARE LEFT COME TO, all come to: `rest` of all, from the tree t
abbrev pub Onward : Tree → List Asked → Tree → List Asked → Type 0
Onward t₀ all t rest = (r : Stop) (u : Tree) → Walks t rest r u → Walks t₀ all r u

module _ {t₀ : Tree} {all : List Asked} where
  pub onward_first : (left : List Asked) → all ≡ left → Onward t₀ all t₀ left
  onward_first left e r u h = walks_as e h

  pub onward_as : {t : Tree} (rest left : List Asked) → rest ≡ left → Onward t₀ all t rest → Onward t₀ all t left
  onward_as rest left e o r u h = o r u (walks_as e h)

  module _ {t u : Tree} (x rest : List Asked) (o : Onward t₀ all t (x ++ rest)) where
    -- the next calls are accepted, or one is refused
    pub onward_next : Walks t x (stop_at 0 0) u → Onward t₀ all u rest
    onward_next h r w k = o r w (walks_then h refl k)

    pub onward_stop : (e : Refusal) → Walks t x (stop_at (number e.cause) e.place) u → Walks t₀ all (stop_at (number e.cause) e.place) u
    onward_stop e h = o _ _ (walks_stop h rest (number-some e.cause))

  pub onward_all : {t : Tree} (rest : List Asked) → rest ≡ [] → Onward t₀ all t rest → Walks t₀ all (stop_at 0 0) t
  onward_all {t} rest e o = o _ _ (walks_as e (walks_none t _ refl))

-- A CALL, as its answer tells it
module _ {t u : Tree} {q : Request} (p : ℕ) where
  pub walks_made : (x : Option ℕ) → Meets t q (left (call_told (Ok x)) u) → Walks t (asked p q ∷ []) (stop_at 0 0) u
  walks_made None m = let w = walks_one t q Done u m (stop_at 0 p) p refl refl in record { good = w.good; walked = w.walked }
  walks_made (Some k) m = let w = walks_one t q (Mark k) u m (stop_at 0 p) p refl refl in record { good = w.good; walked = w.walked }

  pub walks_refused : (c : Cause) → Meets t q (left (call_told (Err c)) u) → Walks t (asked p q ∷ []) (stop_at (number c) p) u
  walks_refused c m = walks_one t q (Refused (number c)) u m _ p refl refl

-- A MODULE OR A UNIT: it is entered, what is inside is walked, and it is left
module _ {t u : Tree} (p : ℕ) (q : Request) (inside : List Asked) where
  pub framed_in : (e : Refusal) → Walks t (asked p q ∷ []) (stop_at (number e.cause) e.place) u → Walks t (asked p q ∷ (inside ++ (asked p exits ∷ []))) (stop_at (number e.cause) e.place) u
  framed_in e h = walks_stop h (inside ++ (asked p exits ∷ [])) (number-some e.cause)

  module _ {v : Tree} (enter : Walks t (asked p q ∷ []) (stop_at 0 0) u) where
    pub framed_inside : (e : Refusal) → Walks u inside (stop_at (number e.cause) e.place) v → Walks t (asked p q ∷ (inside ++ (asked p exits ∷ []))) (stop_at (number e.cause) e.place) v
    framed_inside e h = walks_then enter refl (walks_stop h (asked p exits ∷ []) (number-some e.cause))

    pub framed_all : {w : Tree} {r : Stop} → Walks u inside (stop_at 0 0) v → Walks v (asked p exits ∷ []) r w → Walks t (asked p q ∷ (inside ++ (asked p exits ∷ []))) r w
    framed_all h k = walks_then enter refl (walks_then h refl k)
