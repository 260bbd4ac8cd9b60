-- The walk over a unit's items: the bytes of one item as the image has it, and of items one after the other; and their enums.
-- Assumes nothing.
-- A USE AT A MARK: its segments, its elements, and its bytes
use Rattle.std.specs.Prelude.{ℕ, zero, suc, ◌+◌, ◌-◌, ◌≤◌, ◌<◌, Bool, ◌&&◌, ◌||◌, ◌⊎◌, ◌≡◌, eqb, ltb}
use Rattle.std.specs.List.{flat_map, list_any}
use native.Mathlib.Omega.{arith}
use Rattle.std.proofs.Math.Bool.{true, false, cond}
use Rattle.std.proofs.Math.Path.{refl, ap, subst}
use Rattle.std.proofs.Common.{sym, ◌∙◌, length-append, ⊎_elim, ne_eqb, ltb-true, ltb-false}
use mathlib.Core.List.Memᴰ
use mathlib.Core.List.{List, [], ◌∷◌, ◌++◌, append-nil, Memᴰ}
use Rattle.std.proofs.Math.ListN.{length}
use Rattle.names.specs.Bytes.{ascii, same}
use Rattle.bundle.specs.Bundle.{Text, Element, Items, none, named, use_of, module_of, ignored}
use Rattle.bundle.specs.Encode.{two, string, counted, sized, element, items}
use Rattle.bundle.specs.Limits.{segment_limit, use_kind, module_kind, ignored_kind}
use Rattle.bundle.specs.Form.{Every, Formed}
use Rattle.bundle.specs.Scan.{byte, text}
use Rattle.bundle.specs.Decode.{each, after, after_element, after_length, after_list, element_at, item_at, items_at, decode}
use Rattle.bundle.specs.Decode as decoded
use Rattle.bundle.specs.Access.{inside_of, items-end, items-step, item_module, item_use, item-ignored, item-named, by_kind, kind_of, inner_of, visibility_of, name_of, segments_of, elements_of, first_kind, first_inner, first-visibility, first_name, first-segments, first-elements}
use Rattle.bundle.specs.Told.{kind_from}
use Rattle.bundle.specs.Kinds.{named_byte, no_use, no_module, not_ignored}
use Rattle.bundle.specs.declared.kinds.Kind.{Kind}
use Rattle.bundle.specs.declared.kinds.Kind.TheVariants.{Named, Use, Module, Ignored}
use Rattle.discovery.specs.Discovery.{uses}
use Rattle.discovery.specs.Discovery as discovery
use Rattle.discovery.specs.Walk.{use_at}
use Rattle.assembly.specs.Assemble.{rewrite_use, rewrite_items, function_kind, enum_kind, enum_declarations, has_main}
use Rattle.bundle.specs.Places.{places, places_none, places_more, over_places}
use Rattle.encoder.specs.Parts.{head_bytes}

abbrev pub segments_at : List ℕ → ℕ → List Text
segments_at s at = decoded.counted (after s) (text s) s (at + 4)

abbrev pub elements_at : List ℕ → ℕ → List Element
elements_at s at = decoded.counted (after_element s) (element_at s) s (after_list (after s) s (at + 4))

unfoldable pub use_bytes : List ℕ → Text → ℕ → List ℕ
use_bytes s file at = counted string (rewrite_use (decode s) file (segments_at s at)) ++ counted element (elements_at s at)

-- an item that is a name alone, or a module with nothing inside
abbrev pub named_bytes : List ℕ → ℕ → ℕ → List ℕ
named_bytes s at kind = head_bytes (2 + length (string (text s (at + 4)))) kind (byte s (at + 3)) ++ string (text s (at + 4))

-- ONE ITEM, and items one after the other
abbrev pub one_at : ℕ → List ℕ → ℕ → Items
one_at depth s at = item_at (inside_of depth s) s at none

unfoldable pub item_bytes : List ℕ → Text → ℕ → ℕ → List ℕ
item_bytes s file depth at = items (rewrite_items (rewrite_use (decode s) file) (one_at depth s at))

unfoldable pub items_bytes : List ℕ → Text → ℕ → ℕ → ℕ → List ℕ
items_bytes s file depth end at = items (rewrite_items (rewrite_use (decode s) file) (items_at depth s end at))

unfoldable pub item_enums : List ℕ → ℕ → ℕ → List ℕ
item_enums s depth at = enum_declarations (one_at depth s at)

-- a named item's own
abbrev pub named_enums : ℕ → ℕ → List ℕ
named_enums kind at = cond (eqb kind enum_kind) (at ∷ []) []

unfoldable pub items_enums : List ℕ → ℕ → ℕ → ℕ → List ℕ
items_enums s depth end at = enum_declarations (items_at depth s end at)

-- an item's head and what follows it
pub item-form : (k v : ℕ) (body : List ℕ) → sized (k ∷ v ∷ body) ++ [] ≡ head_bytes (2 + length body) k v ++ body
unfolding sized two
item-form k v body =
    let z : length (k ∷ v ∷ body) ≡ 2 + length body = omega arith in
    append-nil _ ∙ ap (λ (n : ℕ). two n ++ (k ∷ v ∷ body)) z

-- WHAT ONE ITEM GIVES, and the items behind it
module _ (s : List ℕ) (file : Text) (depth at : ℕ) (rest : Items) where
  abbrev written : Items → List ℕ
  written i = items (rewrite_items (rewrite_use (decode s) file) i)

  bytes-first : written (item_at (inside_of depth s) s at rest) ≡ item_bytes s file depth at ++ written rest
  unfolding item_bytes items rewrite_items
  bytes-first =
      by_kind (inside_of depth s) s at rest (λ i. written i ≡ written (one_at depth s at) ++ written rest)
      (λ k. rw (item_module (inside_of depth s) s at none k, append-nil))
      (λ k. let n : byte s (at + 2) ≡ module_kind → ⊥ = λ (e : byte s (at + 2) ≡ module_kind). omega arith in
      rw (item_use (inside_of depth s) s at none n k, append-nil))
      (λ k. let n : byte s (at + 2) ≡ module_kind → ⊥ = λ (e : byte s (at + 2) ≡ module_kind). omega arith in
      let m : byte s (at + 2) ≡ use_kind → ⊥ = λ (e : byte s (at + 2) ≡ use_kind). omega arith in
      rw (item-ignored (inside_of depth s) s at none n m k))
      (λ n m l. rw (item-named (inside_of depth s) s at none n m l, append-nil))

  enums_first : enum_declarations (item_at (inside_of depth s) s at rest) ≡ item_enums s depth at ++ enum_declarations rest
  unfolding item_enums enum_declarations
  enums_first =
      by_kind (inside_of depth s) s at rest (λ i. enum_declarations i ≡ enum_declarations (one_at depth s at) ++ enum_declarations rest)
      (λ k. rw (item_module (inside_of depth s) s at none k, append-nil))
      (λ k. let n : byte s (at + 2) ≡ module_kind → ⊥ = λ (e : byte s (at + 2) ≡ module_kind). omega arith in
      rw (item_use (inside_of depth s) s at none n k))
      (λ k. let n : byte s (at + 2) ≡ module_kind → ⊥ = λ (e : byte s (at + 2) ≡ module_kind). omega arith in
      let m : byte s (at + 2) ≡ use_kind → ⊥ = λ (e : byte s (at + 2) ≡ use_kind). omega arith in
      rw (item-ignored (inside_of depth s) s at none n m k))
      (λ n m l. rw (item-named (inside_of depth s) s at none n m l) (go (eqb (byte s (at + 2)) enum_kind)))
    where
      go : (t : Bool) → cond t (at ∷ enum_declarations rest) (enum_declarations rest) ≡ cond t (at ∷ []) [] ++ enum_declarations rest
      go true = refl
      go false = refl

-- A CLAIM for items from `at` on, from the end to the first
module _ (s : List ℕ) (end : ℕ) (P : ℕ → Type 0) (nothing : (a : ℕ) → end ≤ a → P a) (more : (a : ℕ) → a < end → P (after_length s a) → P a) where
  place_by : (k a : ℕ) → end - a ≤ k → P a
  place_by zero a h = nothing a (omega arith)
  place_by (suc k) a h = go (ltb a end) refl (λ l. place_by k (after_length s a) (omega arith))
    where
      go : (b : Bool) → ltb a end ≡ b → (a < end → P (after_length s a)) → P a
      go true e f = let l = ltb-true a end e in more a l (f l)
      go false e f = nothing a (ltb-false a end e)

  pub by_place : (a : ℕ) → P a
  by_place a = place_by (end - a) a (omega arith)

-- ITEMS BY THEIR PLACES
pub bytes-places : (s : List ℕ) (file : Text) (depth end at : ℕ) → items_bytes s file depth end at ≡ flat_map (item_bytes s file depth) (places s end at)
unfolding items_bytes items rewrite_items
bytes-places s file depth end at =
    over_places depth s (λ i. items (rewrite_items (rewrite_use (decode s) file) i)) (item_bytes s file depth) refl (λ a rest. bytes-first s file depth a rest) end at

pub enums-places : (s : List ℕ) (depth end at : ℕ) → items_enums s depth end at ≡ flat_map (item_enums s depth) (places s end at)
unfolding items_enums enum_declarations
enums-places s depth end at = over_places depth s enum_declarations (item_enums s depth) refl (λ a rest. enums_first s [] depth a rest) end at

pub every-cons : {A : Type 0} (P : A → Type 0) (a : A) (l : List A) → Every P (a ∷ l) → P a × Every P l
unfolding Every
every-cons P a l h = h

-- each is before the end
pub places_small : (s : List ℕ) (end m : ℕ) → end ≤ m → (at : ℕ) → Every (λ a. a < m) (places s end at)
unfolding Every
places_small s end m h =
    by_place s end (λ a. Every (λ c. c < m) (places s end a))
    (λ a l. rw (places_none s end a l) tt)
    (λ a l k. rw (places_more s end a l) (omega arith, k))

-- of items that are known
pub enums_of : (s : List ℕ) (depth end at : ℕ) (x : Items) → items_at depth s end at ≡ x → items_enums s depth end at ≡ enum_declarations x
unfolding items_enums
enums_of s depth end at x e = ap enum_declarations e

-- AN ITEM'S KIND, as the code reads it
-- a name and what is under it: the kind has none of the three others' numbers
pub record NamedAt (s : List ℕ) (at n : ℕ) : Type 0 where
  pub is : byte s (at + 2) ≡ n
  pub no_module : byte s (at + 2) ≡ module_kind → ⊥
  pub no_use : byte s (at + 2) ≡ use_kind → ⊥
  pub no_ignored : byte s (at + 2) ≡ ignored_kind → ⊥

-- an item with a name: no use, and not ignored
pub record HasName (s : List ℕ) (at : ℕ) : Type 0 where
  pub no_use : byte s (at + 2) ≡ use_kind → ⊥
  pub no_ignored : byte s (at + 2) ≡ ignored_kind → ⊥

pub has_name : {s : List ℕ} {at n : ℕ} → NamedAt s at n → HasName s at
has_name t = record { no_use = t.no_use; no_ignored = t.no_ignored }

pub module_name : {s : List ℕ} {at : ℕ} → byte s (at + 2) ≡ module_kind → HasName s at
module_name {s} {at} b = record { no_use = λ (q : byte s (at + 2) ≡ use_kind). omega arith; no_ignored = λ (q : byte s (at + 2) ≡ ignored_kind). omega arith }

-- of an item whose kind the code told
pub named_at : {s : List ℕ} {at n : ℕ} {k : Kind} → k ≡ kind_from (byte s (at + 2)) → k ≡ Named n → NamedAt s at n
named_at {s} {at} {n} {k} t e =
    record {
      is = named_byte t e;
      no_module = no_module t (λ q. let i : Named n ≡ Module = sym e ∙ q in cc);
      no_use = no_use t (λ q. let i : Named n ≡ Use = sym e ∙ q in cc);
      no_ignored = not_ignored t (λ q. let i : Named n ≡ Ignored = sym e ∙ q in cc);
    }

pub visibility-at : (s : List ℕ) (at v : ℕ) → ((d e : ℕ) → at < e → v ≡ visibility_of (items_at d s e at)) → v ≡ byte s (at + 3)
visibility-at s at v f = f 0 (suc at) (omega arith) ∙ first-visibility 0 s (suc at) at (omega arith)

pub name-text : (s : List ℕ) (at : ℕ) (t : Text) → HasName s at
    → ((d e : ℕ) → at < e → (kind_of (items_at d s e at) ≡ use_kind → ⊥) → (kind_of (items_at d s e at) ≡ ignored_kind → ⊥) → t ≡ name_of (items_at d s e at)) → t ≡ text s (at + 4)
name-text s at t n f =
    let h : at < suc at = omega arith in
    let k = first_kind 0 s (suc at) at h in
    let m3 : kind_of (items_at 0 s (suc at) at) ≡ use_kind → ⊥ = λ e. n.no_use (sym k ∙ e) in
    let m6 : kind_of (items_at 0 s (suc at) at) ≡ ignored_kind → ⊥ = λ e. n.no_ignored (sym k ∙ e) in
    f 0 (suc at) h m3 m6 ∙ first_name 0 s (suc at) at h m3 m6

-- AN ITEM BY ITS KIND
module _ (s : List ℕ) (at : ℕ) where
  module _ (file : Text) (depth : ℕ) where
    pub ignored-bytes : byte s (at + 2) ≡ ignored_kind → item_bytes s file depth at ≡ []
    unfolding item_bytes items rewrite_items
    ignored-bytes b =
        rw (item-ignored (inside_of depth s) s at none (λ (q : byte s (at + 2) ≡ module_kind). omega arith) (λ (q : byte s (at + 2) ≡ use_kind). omega arith) b)

    pub use_bytes_lem : byte s (at + 2) ≡ use_kind → item_bytes s file depth at ≡ head_bytes (2 + length (use_bytes s file at)) use_kind (byte s (at + 3)) ++ use_bytes s file at
    unfolding item_bytes items rewrite_items use_bytes
    use_bytes_lem b = rw (item_use (inside_of depth s) s at none (λ (q : byte s (at + 2) ≡ module_kind). omega arith) b) (item-form use_kind (byte s (at + 3)) (use_bytes s file at))

    pub named-bytes : (n : ℕ) → NamedAt s at n → item_bytes s file depth at ≡ named_bytes s at n
    unfolding item_bytes items rewrite_items
    named-bytes n t = rw (item-named (inside_of depth s) s at none t.no_module t.no_use t.no_ignored, t.is) (item-form n (byte s (at + 3)) (string (text s (at + 4))))

  module _ (b : byte s (at + 2) ≡ module_kind) where
    -- what is inside a module
    pub inside_is : (depth end' at' : ℕ) → 0 < depth
        → ((d e : ℕ) → at < e → kind_of (items_at (suc d) s e at) ≡ module_kind → items_at d s end' at' ≡ inner_of (items_at (suc d) s e at))
        → inside_of depth s (after_length s at) (after s (at + 4)) ≡ items_at (depth - 1) s end' at'
    inside_is zero end' at' z inner = absurd (omega arith)
    inside_is (suc d) end' at' z inner =
        let h : at < suc at = omega arith in
        let f = first_kind (suc d) s (suc at) at h ∙ b in
        let y : suc d - 1 ≡ d = omega arith in
        rw y (sym (inner d (suc at) h f ∙ first_inner d s (suc at) at h f))

    module _ (file : Text) (depth : ℕ) where
      module_form : (inner : Items) → inside_of depth s (after_length s at) (after s (at + 4)) ≡ inner
          → item_bytes s file depth at
          ≡ head_bytes (2 + length (string (text s (at + 4)) ++ items (rewrite_items (rewrite_use (decode s) file) inner))) module_kind (byte s (at + 3)) ++ (string (text s (at + 4)) ++ items (rewrite_items (rewrite_use (decode s) file) inner))
      unfolding item_bytes items rewrite_items
      module_form inner i =
          rw (item_module (inside_of depth s) s at none b, i) (item-form module_kind (byte s (at + 3)) (string (text s (at + 4)) ++ items (rewrite_items (rewrite_use (decode s) file) inner)))

      -- whatever is inside, the start is there
      pub module-room : 4 + length (string (text s (at + 4))) ≤ length (item_bytes s file depth at)
      module-room =
          let inner = inside_of depth s (after_length s at) (after s (at + 4)) in
          let q = ap length (module_form inner refl) in
          omega (arith, length-append (string (text s (at + 4))) (items (rewrite_items (rewrite_use (decode s) file) inner)))

      pub flat-bytes : depth ≡ 0 → item_bytes s file depth at ≡ named_bytes s at module_kind
      unfolding items rewrite_items
      flat-bytes z =
          module_form none (rw z)
          ∙ ap (λ (l : List ℕ). head_bytes (2 + length l) module_kind (byte s (at + 3)) ++ l) (append-nil (string (text s (at + 4))))

      pub module_bytes : (end' at' : ℕ) → 0 < depth
          → ((d e : ℕ) → at < e → kind_of (items_at (suc d) s e at) ≡ module_kind → items_at d s end' at' ≡ inner_of (items_at (suc d) s e at))
          → item_bytes s file depth at ≡ head_bytes (2 + length (string (text s (at + 4)) ++ items_bytes s file (depth - 1) end' at')) module_kind (byte s (at + 3)) ++ (string (text s (at + 4)) ++ items_bytes s file (depth - 1) end' at')
      unfolding items_bytes
      module_bytes end' at' z inner = module_form (items_at (depth - 1) s end' at') (inside_is depth end' at' z inner)

  module _ (b : byte s (at + 2) ≡ module_kind) where
    pub enums_flat : (depth : ℕ) → depth ≡ 0 → item_enums s depth at ≡ []
    unfolding item_enums enum_declarations
    enums_flat depth z = rw (item_module (inside_of depth s) s at none b, z)

    pub enums_inside : (depth end' at' : ℕ) → 0 < depth
        → ((d e : ℕ) → at < e → kind_of (items_at (suc d) s e at) ≡ module_kind → items_at d s end' at' ≡ inner_of (items_at (suc d) s e at))
        → item_enums s depth at ≡ items_enums s (depth - 1) end' at'
    unfolding item_enums items_enums enum_declarations
    enums_inside depth end' at' z inner = rw (item_module (inside_of depth s) s at none b) (append-nil _ ∙ ap enum_declarations (inside_is b depth end' at' z inner))

  pub named-enums : (depth n : ℕ) → NamedAt s at n → item_enums s depth at ≡ named_enums n at
  unfolding item_enums enum_declarations
  named-enums depth n t = rw (item-named (inside_of depth s) s at none t.no_module t.no_use t.no_ignored, t.is) refl

  pub enums_other : (depth : ℕ) → (byte s (at + 2) ≡ use_kind) ⊎ (byte s (at + 2) ≡ ignored_kind) → item_enums s depth at ≡ []
  unfolding item_enums enum_declarations
  enums_other depth h =
      ⊎_elim (λ (k : byte s (at + 2) ≡ use_kind). let n : byte s (at + 2) ≡ module_kind → ⊥ = λ (e : byte s (at + 2) ≡ module_kind). omega arith in
      rw (item_use (inside_of depth s) s at none n k) refl)
      (λ (k : byte s (at + 2) ≡ ignored_kind). let n : byte s (at + 2) ≡ module_kind → ⊥ = λ (e : byte s (at + 2) ≡ module_kind). omega arith in
      let m : byte s (at + 2) ≡ use_kind → ⊥ = λ (e : byte s (at + 2) ≡ use_kind). omega arith in
      rw (item-ignored (inside_of depth s) s at none n m k) refl) h

-- NO USE HAS MORE SEGMENTS than a bundle may have, so that a count in the image is a byte; and each is one of the given uses
unfoldable pub Brief : List discovery.Use → Items → Type 0
Brief us none = Unit {0}
Brief us (named head rest) = Brief us rest
Brief us (use_of m v segments elements rest) = ((length segments ≤ segment_limit) × Memᴰ (record { mark = m; segments = segments }) us) × Brief us rest
Brief us (module_of m v name inner rest) = Brief us inner × Brief us rest
Brief us (ignored m v rest) = Brief us rest

pub formed_brief : (us : List discovery.Use) (x : Items) (d : ℕ) → Formed x d → ((u : discovery.Use) → Memᴰ u (uses x) → Memᴰ u us) → Brief us x
unfolding Formed Brief uses
formed_brief us none d f h = tt
formed_brief us (named head rest) d f h = formed_brief us rest d f.1 h
formed_brief us (use_of m v segments elements rest) d f h = ((f.1.0.0, h (record { mark = m; segments = segments }) (Memᴰ.head refl)), formed_brief us rest d f.1.1.1 (λ u w. h u (Memᴰ.tail w)))
formed_brief us (module_of m v name inner rest) d f h = (
  formed_brief us inner (d - 1) f.1.1.0.1 (λ u w. h u (Memᴰ.append_left (uses rest) w)),
  formed_brief us rest d f.1.1.1 (λ u w. h u (Memᴰ.append_right (uses inner) w)),
)
formed_brief us (ignored m v rest) d f h = formed_brief us rest d f.1 h

brief_item : (us : List discovery.Use) (inside : ℕ → ℕ → Items) (s : List ℕ) (at : ℕ) (rest : Items) → Brief us (item_at inside s at rest) → Brief us (item_at inside s at none) × Brief us rest
unfolding Brief
brief_item us inside s at rest =
    by_kind inside s at rest (λ i. Brief us i → Brief us (item_at inside s at none) × Brief us rest)
    (λ k f. (rw (item_module inside s at none k) (f.0, tt), f.1))
    (λ k f. (rw (item_use inside s at none (λ (e : byte s (at + 2) ≡ module_kind). omega arith) k) (f.0, tt), f.1))
    (λ k f. (rw (item-ignored inside s at none (λ (e : byte s (at + 2) ≡ module_kind). omega arith) (λ (e : byte s (at + 2) ≡ use_kind). omega arith) k) tt, f))
    (λ n m l f. (rw (item-named inside s at none n m l) tt, f))

-- at each place
pub brief_places : (us : List discovery.Use) (s : List ℕ) (depth end at : ℕ) → Brief us (items_at depth s end at) → Every (λ a. (a < end) × Brief us (one_at depth s a)) (places s end at)
unfolding Every
brief_places us s depth end =
    by_place s end (λ a. Brief us (items_at depth s end a) → Every (λ c. (c < end) × Brief us (one_at depth s c)) (places s end a))
    (λ a h f. rw (places_none s end a h) tt)
    (λ a h k f. let t = brief_item us (inside_of depth s) s a (items_at depth s end (after_length s a)) (subst (Brief us) (items-step depth s end a h) f) in
    rw (places_more s end a h) ((h, t.0), k t.1))

module _ (us : List discovery.Use) (s : List ℕ) (at depth : ℕ) (b : Brief us (one_at depth s at)) where
  module _ (u : byte s (at + 2) ≡ use_kind) where
    is_use : one_at depth s at ≡ use_of at (byte s (at + 3)) (segments_at s at) (elements_at s at) none
    is_use = item_use (inside_of depth s) s at none (λ (x : byte s (at + 2) ≡ module_kind). omega arith) u

    pub brief_use : length (segments_at s at) ≤ segment_limit
    unfolding Brief
    brief_use = (subst (Brief us) is_use b).0.0

    pub brief_known : Memᴰ (use_at s at) us
    unfolding Brief
    brief_known = (subst (Brief us) is_use b).0.1

  pub brief_inside : (end' at' : ℕ) → byte s (at + 2) ≡ module_kind → 0 < depth
      → ((d e : ℕ) → at < e → kind_of (items_at (suc d) s e at) ≡ module_kind → items_at d s end' at' ≡ inner_of (items_at (suc d) s e at))
      → Brief us (items_at (depth - 1) s end' at')
  unfolding Brief
  brief_inside end' at' m z inner = subst (Brief us) (inside_is s at m depth end' at' z inner) (subst (Brief us) (item_module (inside_of depth s) s at none m) b).0

-- A USE AS THE CODE READS IT
module _ (s : List ℕ) (at : ℕ) (use-there : byte s (at + 2) ≡ use_kind) where
  pub segments-read : (first n : ℕ) → ((d e : ℕ) → at < e → kind_of (items_at d s e at) ≡ use_kind → each (after s) (text s) n first ≡ segments_of (items_at d s e at))
      → each (after s) (text s) n first ≡ segments_at s at
  segments-read first n f =
      let h : at < suc at = omega arith in
      let k = first_kind 0 s (suc at) at h ∙ use-there in
      f 0 (suc at) h k ∙ first-segments 0 s (suc at) at h k

  pub elements-read : (first n : ℕ) → ((d e : ℕ) → at < e → kind_of (items_at d s e at) ≡ use_kind → each (after_element s) (element_at s) n first ≡ elements_of (items_at d s e at))
      → each (after_element s) (element_at s) n first ≡ elements_at s at
  elements-read first n f =
      let h : at < suc at = omega arith in
      let k = first_kind 0 s (suc at) at h ∙ use-there in
      f 0 (suc at) h k ∙ first-elements 0 s (suc at) at h k

-- A FUNCTION `main` among the items from `at` to `end`
unfoldable pub main_at : List ℕ → ℕ → Bool
main_at s at = eqb (byte s (at + 2)) function_kind && same (text s (at + 4)) (ascii "main")

main-first : (s : List ℕ) (depth at : ℕ) (rest : Items) → has_main (item_at (inside_of depth s) s at rest) ≡ (main_at s at || has_main rest)
unfolding has_main main_at
main-first s depth at rest =
    by_kind (inside_of depth s) s at rest (λ i. has_main i ≡ (main_at s at || has_main rest))
    (λ k. rw (ne_eqb (byte s (at + 2)) function_kind (λ (q : byte s (at + 2) ≡ function_kind). omega arith)))
    (λ k. rw (ne_eqb (byte s (at + 2)) function_kind (λ (q : byte s (at + 2) ≡ function_kind). omega arith)))
    (λ k. rw (ne_eqb (byte s (at + 2)) function_kind (λ (q : byte s (at + 2) ≡ function_kind). omega arith))) (λ n m l. refl)

pub main-places : (s : List ℕ) (depth end at : ℕ) → has_main (items_at depth s end at) ≡ list_any (main_at s) (places s end at)
unfolding has_main
main-places s depth end =
    by_place s end (λ a. has_main (items_at depth s end a) ≡ list_any (main_at s) (places s end a))
    (λ a h. rw (items-end depth s end a h, places_none s end a h) refl)
    (λ a h k. rw (items-step depth s end a h, places_more s end a h) (main-first s depth a (items_at depth s end (after_length s a)) ∙ ap (λ (b : Bool). main_at s a || b) k))

-- as the code reads it
pub main-named : (s : List ℕ) (at n : ℕ) → byte s (at + 2) ≡ n → main_at s at ≡ (eqb n function_kind && same (text s (at + 4)) (ascii "main"))
unfolding main_at
main-named s at n e = rw e refl
