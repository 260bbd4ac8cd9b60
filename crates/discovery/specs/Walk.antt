-- The walk over a file's items that gathers the marks of its uses. Assumes nothing.
use Rattle.std.specs.Prelude.{ℕ, zero, suc, ◌+◌, ◌-◌, ◌*◌, ◌≤◌, ◌<◌, ◌^◌, cond, ◌≡◌, ◌⊎◌, refl, eqb, length, get_or}
use Rattle.std.proofs.Common.{sym, ap, subst, ◌∙◌, ⊎_elim, length-append}
use Rattle.std.proofs.Math.Numerals.{unary_clauses}
use native.Mathlib.Omega.{arith}
use mathlib.Core.List.Memᴰ
use mathlib.Core.List.{List, [], ◌∷◌, ◌++◌, map, append-nil, append_assoc, Memᴰ}
use Rattle.std.proofs.lemmas.List.{length-map}
use Rattle.std.proofs.Math.ListN.{get_or-map}
use borrow.Author.Tests.{eq-eqb, ne_eqb}
use Rattle.bundle.specs.Bundle.{Items, none, named, use_of, module_of, ignored, File, Bundle}
use Rattle.bundle.specs.Form.{Every, IsName, Formed, FormedFile, WellFormed}
use Rattle.bundle.specs.Members.{every_mem}
use Rattle.bundle.specs.Limits.{file_size, depth_limit, use_limit, use_kind, module_kind}
use Rattle.bundle.specs.Scan.{byte, text}
use Rattle.bundle.specs.Told.{kind_from}
use Rattle.bundle.specs.Kinds.{use_byte, no_use, no_module}
use Rattle.bundle.specs.Places.{places, Below, places_below, below-next, over_places}
use Rattle.std.specs.List.{flat_map}
use Rattle.bundle.specs.declared.kinds.Kind.{Kind}
use Rattle.bundle.specs.declared.kinds.Kind.TheVariants.{Use as UseKind, Named, Ignored}
use Rattle.bundle.specs.Decode.{each, counted, after, after_length, item_at, items_at}
use Rattle.bundle.specs.Access.{inside_of, by_kind, kind_of, inner_of, first_kind, first_inner, first-segments, segments_of}
use Rattle.discovery.specs.Discovery.{Use, uses}
use Rattle.discovery.specs.Facts.{mem_snoc, get_d_mem, get_d_any, map_snoc}

-- the use at a mark
abbrev pub use_at : List ℕ → ℕ → Use
use_at s at = record { mark = at; segments = counted (after s) (text s) s (at + 4) }

-- the uses from `at` to `end`, and those of the item at `at`
abbrev pub uses_at : ℕ → List ℕ → ℕ → ℕ → List Use
uses_at depth s end at = uses (items_at depth s end at)

abbrev pub uses_inside : ℕ → List ℕ → ℕ → List Use
uses_inside depth s at = uses (inside_of depth s (after_length s at) (after s (at + 4)))

unfoldable pub item_uses : ℕ → List ℕ → ℕ → List Use
item_uses depth s at =
    cond (eqb (byte s (at + 2)) module_kind) (uses_inside depth s at)
    (cond (eqb (byte s (at + 2)) use_kind) (use_at s at ∷ []) [])

one_item : (depth : ℕ) (s : List ℕ) (at : ℕ) (rest : Items) → uses (item_at (inside_of depth s) s at rest) ≡ item_uses depth s at ++ uses rest
unfolding uses item_uses
one_item depth s at rest =
    by_kind (inside_of depth s) s at rest (λ i. uses i ≡ item_uses depth s at ++ uses rest)
    (λ k. rw (eq-eqb (byte s (at + 2)) module_kind k))
    (λ k. let n : byte s (at + 2) ≡ module_kind → ⊥ = λ (e : byte s (at + 2) ≡ module_kind). omega arith in
    rw (ne_eqb (byte s (at + 2)) module_kind n, eq-eqb (byte s (at + 2)) use_kind k))
    (λ k. let n : byte s (at + 2) ≡ module_kind → ⊥ = λ (e : byte s (at + 2) ≡ module_kind). omega arith in
    let m : byte s (at + 2) ≡ use_kind → ⊥ = λ (e : byte s (at + 2) ≡ use_kind). omega arith in
    rw (ne_eqb (byte s (at + 2)) module_kind n, ne_eqb (byte s (at + 2)) use_kind m))
    (λ n m l. rw (ne_eqb (byte s (at + 2)) module_kind n, ne_eqb (byte s (at + 2)) use_kind m))

pub uses_over : (depth : ℕ) (s : List ℕ) (end at : ℕ) → uses_at depth s end at ≡ flat_map (item_uses depth s) (places s end at)
unfolding uses
uses_over depth s end at = over_places depth s uses (item_uses depth s) refl (one_item depth s) end at

-- WHAT IS GATHERED: the marks of uses
abbrev pub use_list : List ℕ → List ℕ → List Use
use_list s u = map (use_at s) u

-- a mark at which a use stands
pub record UseMark (s : List ℕ) (m : ℕ) : Type 0 where
  pub kind : byte s (m + 2) ≡ use_kind
  pub small : m < 2 ^ 58

abbrev pub UseMarks : List ℕ → List ℕ → Type 0
UseMarks s u = (m : ℕ) → Memᴰ m u → UseMark s m

-- the uses l are added
pub record Gathered (s u r : List ℕ) (l : List Use) : Type 0 where
  pub list : use_list s r ≡ use_list s u ++ l
  pub marks : UseMarks s u → UseMarks s r

abbrev pub Room : List ℕ → List Use → Type 0
Room u l = length u + length l ≤ use_limit

module _ (s : List ℕ) where
  pub gathered_none : (u : List ℕ) → Gathered s u u []
  gathered_none u = record { list = sym (append-nil (use_list s u)); marks = λ h. h }

  pub gathered_use : (u : List ℕ) (at : ℕ) → UseMark s at → Gathered s u (u ++ (at ∷ [])) (use_at s at ∷ [])
  gathered_use u at k = record {
    list = map_snoc (use_at s) u at;
    marks = λ f m w. ⊎_elim (f m) (λ e. rw e k) (mem_snoc u w);
  }

  pub gathered-then : {u v r : List ℕ} {a b : List Use} → Gathered s u v a → Gathered s v r b → Gathered s u r (a ++ b)
  gathered-then {u} {v} {r} {a} {b} g h = record {
    list = h.list ∙ (ap (λ (l : List Use). l ++ b) g.list ∙ append_assoc (use_list s u) a b);
    marks = λ f. h.marks (g.marks f);
  }

  pub gathered-length : {u r : List ℕ} {l : List Use} → Gathered s u r l → length r ≡ length u + length l
  gathered-length {u} {r} {l} g = omega (arith, ap length g.list, length-append (use_list s u) l, length-map r (use_at s), length-map u (use_at s))

-- THE TWO FUNCTIONS
-- positions that the sums of the code cannot pass
abbrev pub Small : ℕ → ℕ → Type 0
Small at depth = at + depth * file_size < 2 ^ 58

-- of these uses: those of the items passed, and those of the items at the places that are left, before `end`
pub record SoFar (depth : ℕ) (s u w : List ℕ) (all : List Use) (end : ℕ) (left : List ℕ) : Type 0 where
  pub passed : List Use
  pub gathered : Gathered s u w passed
  pub split : all ≡ passed ++ flat_map (item_uses depth s) left
  pub room : Room u all
  pub below : Below end left

pub so_far-none : (depth : ℕ) (s u : List ℕ) (end at : ℕ) → Room u (uses_at depth s end at) → SoFar depth s u u (uses_at depth s end at) end (places s end at)
so_far-none depth s u end at r = record { passed = []; gathered = gathered_none s u; split = uses_over depth s end at; room = r; below = places_below s end at }

module _ {depth : ℕ} {s u w : List ℕ} {all : List Use} {end : ℕ} {left : List ℕ} (f : SoFar depth s u w all end left) where
  pub so_far-all : left ≡ [] → Gathered s u w all
  so_far-all e =
      let none : all ≡ f.passed = f.split ∙ (ap (λ l. f.passed ++ flat_map (item_uses depth s) l) e ∙ append-nil f.passed) in
      rw none f.gathered

  module _ {at : ℕ} {rest : List ℕ} (e : left ≡ at ∷ rest) where
    split_here : all ≡ f.passed ++ (item_uses depth s at ++ flat_map (item_uses depth s) rest)
    split_here = f.split ∙ ap (λ l. f.passed ++ flat_map (item_uses depth s) l) e

    pub so_far-before : at < end
    so_far-before = (below-next f.below e).0

    pub so_far-room : Room w (item_uses depth s at)
    so_far-room =
        let c = gathered-length s f.gathered in
        let n = ap length split_here in
        let r = f.room in
        omega (arith, length-append f.passed (item_uses depth s at ++ flat_map (item_uses depth s) rest), length-append (item_uses depth s at) (flat_map (item_uses depth s) rest))

    pub so_far-next : {w' : List ℕ} → Gathered s w w' (item_uses depth s at) → SoFar depth s u w' all end rest
    so_far-next g = record {
      passed = f.passed ++ item_uses depth s at;
      gathered = gathered-then s f.gathered g;
      split = split_here ∙ sym (append_assoc f.passed (item_uses depth s at) (flat_map (item_uses depth s) rest));
      room = f.room;
      below = (below-next f.below e).1;
    }

-- the marks of exactly these uses, from the first on
pub record UsesAre (s r : List ℕ) (l : List Use) : Type 0 where
  pub list : use_list s r ≡ l
  pub marks : UseMarks s r

pub from-none : (s r : List ℕ) (l k : List Use) → l ≡ k → Gathered s [] r l → UsesAre s r k
from-none s r l k e g = record { list = g.list ∙ e; marks = g.marks (λ m w. absurd (Memᴰ.not-nil w)) }

pub uses-count : {s r : List ℕ} {l : List Use} → UsesAre s r l → length r ≡ length l
uses-count {s} {r} u = sym (length-map r (use_at s)) ∙ ap length u.list

-- one item, by its kind as the code reads it
module _ (depth : ℕ) (s : List ℕ) (at : ℕ) {k : Kind} (kind : k ≡ kind_from (byte s (at + 2))) where
  pub use_mark : k ≡ UseKind → at < 2 ^ 58 → UseMark s at
  use_mark e h = record { kind = use_byte kind e; small = h }

  pub use_item : k ≡ UseKind → item_uses depth s at ≡ use_at s at ∷ []
  unfolding item_uses
  use_item e =
      let b : byte s (at + 2) ≡ use_kind = use_byte kind e in
      let n : byte s (at + 2) ≡ module_kind → ⊥ = λ (m : byte s (at + 2) ≡ module_kind). omega arith in
      rw (ne_eqb (byte s (at + 2)) module_kind n, eq-eqb (byte s (at + 2)) use_kind b)

  pub other_item : ((x : ℕ) × (k ≡ Named x)) ⊎ (k ≡ Ignored) → item_uses depth s at ≡ []
  unfolding item_uses
  other_item h =
      let n = no_module kind (λ e. ⊎_elim (λ p. let q = p.1 in cc) (λ p. cc) h) in
      let m = no_use kind (λ e. ⊎_elim (λ p. let q = p.1 in cc) (λ p. cc) h) in
      rw (ne_eqb (byte s (at + 2)) module_kind n, ne_eqb (byte s (at + 2)) use_kind m)

-- a module, by its byte
module _ (depth : ℕ) (s : List ℕ) (at : ℕ) (b : byte s (at + 2) ≡ module_kind) where
  pub module_flat : depth ≡ 0 → item_uses depth s at ≡ []
  unfolding item_uses uses
  module_flat z = rw (eq-eqb (byte s (at + 2)) module_kind b, z)

  module_uses : (d : ℕ) → item_uses (suc d) s at ≡ uses_at d s (after_length s at) (after s (at + 4))
  unfolding item_uses
  module_uses d = rw (eq-eqb (byte s (at + 2)) module_kind b)

  pub module_deep : (end' at' : ℕ) → 0 < depth
      → ((d e : ℕ) → at < e → kind_of (items_at (suc d) s e at) ≡ module_kind → items_at d s end' at' ≡ inner_of (items_at (suc d) s e at))
      → item_uses depth s at ≡ uses_at (depth - 1) s end' at'
  module_deep end' at' z inner = go depth z
    where
      go : (d : ℕ) → 0 < d → item_uses d s at ≡ uses_at (d - 1) s end' at'
      go zero z' = absurd (omega arith)
      go (suc d) z' =
          let f = first_kind (suc d) s (suc at) at (omega arith) ∙ b in
          simp unary_clauses (module_uses d ∙ ap uses (sym (inner d (suc at) (omega arith) f ∙ first_inner d s (suc at) at (omega arith) f)))

-- the segments of the use at a mark, as the code reads them
pub segments-at : (s : List ℕ) (mark first n : ℕ) → UseMark s mark
    → ((d e : ℕ) → mark < e → kind_of (items_at d s e mark) ≡ use_kind → each (after s) (text s) n first ≡ segments_of (items_at d s e mark))
    → each (after s) (text s) n first ≡ (use_at s mark).segments
segments-at s mark first n m f =
    let k = first_kind 0 s (suc mark) mark (omega arith) ∙ m.kind in
    f 0 (suc mark) (omega arith) k ∙ first-segments 0 s (suc mark) mark (omega arith) k

-- the i-th of the uses
module _ (s u : List ℕ) (i : ℕ) (h : i < length u) where
  pub use_at-place : get_or (use_list s u) i (use_at s (get_or u i 0)) ≡ use_at s (get_or u i 0)
  use_at-place = get_or-map (use_at s) u i (get_or u i 0) ∙ ap (use_at s) (get_d_any u i (get_or u i 0) 0 h)

  pub mark-at-place : UseMarks s u → UseMark s (get_or u i 0)
  mark-at-place f = f (get_or u i 0) (get_d_mem u i 0 h)

-- SEGMENTS ARE NAMES in items that are in form
abbrev pub NamedUse : Use → Type 0
NamedUse u = Every IsName u.segments

every_append : (l k : List Use) → Every NamedUse l → Every NamedUse k → Every NamedUse (l ++ k)
unfolding Every
every_append [] k h i = i
every_append (u ∷ l) k h i = (h.0, every_append l k h.1 i)

pub uses-named : (x : Items) (depth : ℕ) → Formed x depth → Every NamedUse (uses x)
unfolding Formed uses Every
uses-named none depth h = tt
uses-named (named head rest) depth h = uses-named rest depth h.1
uses-named (use_of m v segments elements rest) depth h = (h.1.0.1, uses-named rest depth h.1.1.1)
uses-named (module_of m v name inner rest) depth h = every_append (uses inner) (uses rest) (uses-named inner (depth - 1) h.1.1.0.1) (uses-named rest depth h.1.1.1)
uses-named (ignored m v rest) depth h = uses-named rest depth h.1

-- of a file of a bundle in form
pub file-named : (b : Bundle) → WellFormed b → (i : ℕ) (f : File) → i < length b.files → get_or b.files i f ≡ f → Every NamedUse (uses f.items)
file-named b w i f h is = uses-named f.items depth_limit (subst FormedFile is (every_mem FormedFile w.form.files (get_d_mem b.files i f h))).1

-- the i-th is named
pub named-at-place : (s u : List ℕ) → Every NamedUse (use_list s u) → (i : ℕ) → i < length u → NamedUse (use_at s (get_or u i 0))
named-at-place s u h i lt = subst NamedUse (use_at-place s u i lt) (every_mem NamedUse h (get_d_mem (use_list s u) i (use_at s (get_or u i 0)) (omega (arith, length-map u (use_at s)))))
