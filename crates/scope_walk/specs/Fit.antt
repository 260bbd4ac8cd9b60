-- What the scope walk needs of a unit's items holds of every checked bundle: two bytes hold a mark, and a use is in form. Assumes
-- nothing.
use Rattle.std.specs.Prelude.{ℕ, ◌+◌, ◌-◌, ◌≤◌, ◌<◌, refl, length}
use Rattle.std.proofs.Common.{arith}
use mathlib.Core.List.Memᴰ
use mathlib.Core.List.{List, ◌∷◌, ◌++◌, Memᴰ}
use Rattle.bundle.specs.Bundle.{Items, none, named, use_of, module_of, ignored, Bundle}
use Rattle.bundle.specs.Limits.{depth_limit, use_kind, module_kind}
use Rattle.bundle.specs.Encode.{string, counted, element, encode_head, items, encode}
use Rattle.bundle.specs.Form.{Formed, WellFormed}
use Rattle.bundle.specs.Marks.{Found}
use Rattle.bundle.specs.Theorems.{marks-are_offsets}
use Rattle.discovery.specs.Discovery.{Use, uses}
use Rattle.order.specs.Exact.{begins-before, program-found, encode-length}
use Rattle.assembly.specs.Assemble.{file_of, items_of}
use Rattle.assembly.specs.Paths.{program-formed}
use Rattle.scope_walk.specs.Steps.{Plain}

-- A UNIT'S ITEMS
module _ (b : Bundle) (w : WellFormed b) where
  small-mark : (at : ℕ) → at + 4 ≤ length (encode b) → at < 65536
  small-mark at h = let z = w.form.size in omega (arith, encode-length b)

  formed-plain : (us : List Use) (x : Items) (d : ℕ) → Formed x d → Found (encode b) x → ((u : Use) → Memᴰ u (uses x) → Memᴰ u us) → Plain us x
  unfolding Formed Found Plain uses
  formed-plain us none d f m h = tt
  formed-plain us (named head rest) d f m h =
      (small-mark head.mark (let far = begins-before (encode b) head.mark (encode_head head) m.0 (omega arith) in omega arith), formed-plain us rest d f.1 m.1 h)
  formed-plain us (use_of at v segments elements rest) d f m h = (
    (small-mark at (let far = begins-before (encode b) at (use_kind ∷ v ∷ (counted string segments ++ counted element elements)) m.0 (omega arith) in omega arith), (f.1.0, f.1.1.0), h (record { mark = at; segments = segments }) (Memᴰ.head refl)),
    formed-plain us rest d f.1.1.1 m.1 (λ u w. h u (Memᴰ.tail w)),
  )
  formed-plain us (module_of at v name inner rest) d f m h = (
    small-mark at (let far = begins-before (encode b) at (module_kind ∷ v ∷ (string name ++ items inner)) m.0 (omega arith) in omega arith),
    (formed-plain us inner (d - 1) f.1.1.0.1 m.1.0 (λ u w. h u (Memᴰ.append_left (uses rest) w)), formed-plain us rest d f.1.1.1 m.1.1 (λ u w. h u (Memᴰ.append_right (uses inner) w))),
  )
  formed-plain us (ignored at v rest) d f m h = formed-plain us rest d f.1 m.1 h

pub unit-plain : (b : Bundle) → WellFormed b → (u : ℕ) → Plain (uses (items_of b u)) (items_of b u)
unit-plain b w u =
    formed-plain b w (uses (items_of b u)) (items_of b u) depth_limit (program-formed b.files (file_of b u) w.form.files)
    (program-found (encode b) b.files (file_of b u) (marks-are_offsets b w)) (λ v m. m)
