-- The form of a program: names and paths are in form, there are no ignored items, and modules are at most 9 deep; so an image that
-- is not too long is bytes. Assumes nothing.
use Rattle.std.specs.Prelude.{ℕ, suc, ◌-◌, ◌≤◌, ◌<◌, Bool, true, false, ◌||◌, ◌≡◌, refl, eqb, length, get_or}
use native.Mathlib.Omega.{arith}
use Rattle.std.proofs.Common.{sym, length-append, eqb-true}
use Rattle.std.proofs.Math.Path.{subst}
use mathlib.Core.List.Memᴰ
use mathlib.Core.List.{List, [], ◌∷◌, ◌++◌, Memᴰ}
use Rattle.names.specs.Identifier.{is_identifier, identifier-short, identifier-bytes}
use Rattle.names.specs.NameTheorems.{unit-identifier}
use Rattle.bundle.specs.Bundle.{Text, Element, Head, Items, none, named, use_of, module_of, ignored, Bundle}
use Rattle.bundle.specs.Encode.{two, string, joined, counted, sized, element, encode_head, items}
use Rattle.bundle.specs.Form.{Every, IsName, IsAlias, FormedElement, FormedHead, Formed, WellFormed}
use Rattle.bundle.specs.Limits.{use_kind, module_kind, element_limit, depth_limit}
use Rattle.discovery.specs.Discovery.{Use, uses}
use Rattle.order.specs.Run.{linked, ordered}
use Rattle.assembly.specs.Assemble.{rewrite_use, rewrite_items, file_of, items_of, local_items, assembled}
use Rattle.assembly.specs.Image.{image_bytes, items_length, sized-length, items-length, image_limit}
use Rattle.assembly.specs.Paths.{ImagePath, small_width, program-formed}
use Rattle.assembly.specs.Theorems.{assembly, few-units}

-- THE FORM
-- items in form, with modules at most so deep
unfoldable pub ImageFormed : Items → ℕ → Type 0
ImageFormed none depth = Unit {0}
ImageFormed (named head rest) depth = FormedHead head × ImageFormed rest depth
ImageFormed (use_of m v segments elements rest) depth =
    (v ≤ 1) × (ImagePath segments × (((length elements ≤ element_limit) × Every FormedElement elements) × ImageFormed rest depth))
ImageFormed (module_of m v name inner rest) depth = (v ≤ 1) × (IsName name × (((0 < depth) × ImageFormed inner (depth - 1)) × ImageFormed rest depth))
ImageFormed (ignored m v rest) depth = ⊥

pub rewritten-formed : (path : List Text → List Text) (x : Items) (d : ℕ) → Formed x d → ((u : Use) → Memᴰ u (uses x) → ImagePath (path u.segments))
    → ImageFormed (rewrite_items path x) d
unfolding Formed ImageFormed rewrite_items uses
rewritten-formed path none d f g = tt
rewritten-formed path (named head rest) d f g = (f.0, rewritten-formed path rest d f.1 g)
rewritten-formed path (use_of m v segments elements rest) d f g =
    (f.0, (g (record { mark = m; segments = segments }) (Memᴰ.head refl), (f.1.1.0, rewritten-formed path rest d f.1.1.1 (λ u w. g u (Memᴰ.tail w)))))
rewritten-formed path (module_of m v name inner rest) d f g =
    (f.0, (f.1.0, ((f.1.1.0.0, rewritten-formed path inner (d - 1) f.1.1.0.1 (λ u w. g u (Memᴰ.append_left _ w))), rewritten-formed path rest d f.1.1.1 (λ u w. g u (Memᴰ.append_right (uses inner) w)))))
rewritten-formed path (ignored m v rest) d f g = rewritten-formed path rest d f.1 g

module _ (b : Bundle) (w : WellFormed b) (o : List ℕ) (e : ordered b ≡ linked o) where
  unit-formed : (u : ℕ) → Memᴰ u o → ImageFormed (local_items b u) depth_limit
  unfolding local_items
  unit-formed u m =
      rewritten-formed (rewrite_use b (file_of b u)) (items_of b u) depth_limit (program-formed b.files (file_of b u) w.form.files)
      (λ x i. let t = (assembly b w o e).uses_found u m x i in subst ImagePath (sym t.path) t.form)

  -- of some of the units
  units-formed : (l : List ℕ) → ((u : ℕ) → Memᴰ u l → Memᴰ u o) → ImageFormed (assembled b l) 9
  unfolding ImageFormed assembled
  units-formed [] f = tt
  units-formed (u ∷ l) f =
      let m = f u (Memᴰ.head refl) in
      let n = (assembly b w o e).only_units u m in
      (omega arith, (unit-identifier u (small_width u (omega (arith, few-units b w o e))), ((omega arith, unit-formed u m), units-formed l (λ x i. f x (Memᴰ.tail i)))))

  pub assembled-formed : ImageFormed (assembled b o) 9
  assembled-formed = units-formed o (λ u m. m)

-- BYTES
abbrev pub Byte : ℕ → Type 0
Byte x = x < 256

every_append : (l k : List ℕ) → Every Byte l → Every Byte k → Every Byte (l ++ k)
unfolding Every
every_append [] k f g = g
every_append (x ∷ l) k f g = (f.0, every_append l k f.1 g)

every-place : (s : List ℕ) → ((i : ℕ) → i < length s → get_or s i 0 < 256) → Every Byte s
unfolding Every
every-place [] f = tt
every-place (x ∷ s) f = (f 0 (omega arith), every-place s (λ i h. f (suc i) (omega arith)))

name-bytes : (t : Text) → IsName t → Every Byte (string t)
unfolding string Every
name-bytes t h = (let n = identifier-short t h in omega arith, every-place t (λ i l. (identifier-bytes t h i l).1))

alias-bytes : (t : Text) → IsAlias t → Every Byte (string t)
unfolding string Every
alias-bytes t h = go (eqb (length t) 0) refl h
  where
    empty : (t : Text) → length t ≡ 0 → Every Byte (string t)
    empty [] e = (omega arith, tt)
    empty (x ∷ t) e = absurd (omega arith)

    go : (q : Bool) → eqb (length t) 0 ≡ q → (q || is_identifier t) ≡ true → Every Byte (string t)
    go true q k = empty t (eqb-true (length t) 0 q)
    go false q k = name-bytes t k

head_bytes : (h : Head) → FormedHead h → Every Byte (encode_head h)
unfolding Every
head_bytes h f = let k = f.kind.1.0 in let v = f.visibility in (omega arith, (omega arith, name-bytes h.name f.name))

segments-bytes : (l : List Text) → Every IsName l → Every Byte (joined string l)
unfolding joined Every
segments-bytes [] h = tt
segments-bytes (t ∷ l) h = every_append (string t) (joined string l) (name-bytes t h.0) (segments-bytes l h.1)

elements-bytes : (l : List Element) → Every FormedElement l → Every Byte (joined element l)
unfolding joined element Every
elements-bytes [] h = tt
elements-bytes (x ∷ l) h =
    every_append (element x) (joined element l) (every_append (string x.name) (string x.alias) (name-bytes x.name h.0.0) (alias-bytes x.alias h.0.1))
    (elements-bytes l h.1)

sized-bytes : (s : List ℕ) → length s ≤ image_limit → Every Byte s → Every Byte (sized s)
unfolding sized two Every
sized-bytes s h f = (omega arith, (omega arith, f))

counted-bytes : {A : Type 0} (f : A → List ℕ) (l : List A) → length l < 256 → Every Byte (joined f l) → Every Byte (counted f l)
unfolding counted Every
counted-bytes f l h g = (h, g)

-- an item and those after it
item-then : (s rest : List ℕ) → length (sized s ++ rest) ≤ image_limit → Every Byte s → (length rest ≤ image_limit → Every Byte rest) → Every Byte (sized s ++ rest)
item-then s rest h f g =
    let n = length-append (sized s) rest in
    let k = sized-length s in
    every_append (sized s) rest (sized-bytes s (omega arith) f) (g (omega arith))

items-bytes : (x : Items) (d : ℕ) → ImageFormed x d → length (items x) ≤ image_limit → Every Byte (items x)
unfolding ImageFormed items Every
items-bytes none d f h = tt
items-bytes (named head rest) d f h = item-then (encode_head head) (items rest) h (head_bytes head f.0) (λ l. items-bytes rest d f.1 l)
items-bytes (use_of m v segments elements rest) d f h =
    let a = f.0 in
    let p = f.1.0.count in
    let q = f.1.1.0.0 in
    item-then (use_kind ∷ v ∷ (counted string segments ++ counted element elements)) (items rest) h (
      omega arith,
      (
        omega arith,
        every_append (counted string segments) (counted element elements)
            (counted-bytes string segments (omega arith) (segments-bytes segments f.1.0.names))
            (counted-bytes element elements (omega arith) (elements-bytes elements f.1.1.0.1)),
      ),
    )
    (λ l. items-bytes rest d f.1.1.1 l)
items-bytes (module_of m v name inner rest) d f h =
    let a = f.0 in
    let n = length-append (sized (module_kind ∷ v ∷ (string name ++ items inner))) (items rest) in
    let k = sized-length (module_kind ∷ v ∷ (string name ++ items inner)) in
    let i = length-append (string name) (items inner) in
    let short : length (items inner) ≤ image_limit = omega arith in
    item-then (module_kind ∷ v ∷ (string name ++ items inner)) (items rest) h
    (omega arith, (omega arith, every_append (string name) (items inner) (name-bytes name f.1.0) (items-bytes inner (d - 1) f.1.1.0.1 short)))
    (λ l. items-bytes rest d f.1.1.1 l)
items-bytes (ignored m v rest) d f h = absurd f

-- every number of an image that is not 15 is a byte
pub image-bytes : (p : Items) (d : ℕ) → ImageFormed p d → items_length p ≤ image_limit → Every Byte (image_bytes p)
unfolding image_bytes Every
image-bytes p d f h =
    let n : length (items p) ≤ image_limit = omega (arith, items-length p) in
    (omega arith, sized-bytes (items p) n (items-bytes p d f n))
