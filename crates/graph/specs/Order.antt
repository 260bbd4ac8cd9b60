-- The words of demand 3 on the linked order and the ring, independent of any walk's code. Assumes nothing.
use Rattle.std.specs.Prelude.{◌≡◌, ℕ, ◌<◌}
use mathlib.Core.List.{List, [], ◌∷◌, ◌++◌, Memᴰ}

-- u lists v, another unit
pub record Edge (deps : ℕ → List ℕ) (u v : ℕ) : Type 0 where
  pub other : v ≡ u → ⊥
  pub listed : Memᴰ v (deps u)

-- v is reached from u by edges, or is u
pub data Reaches (deps : ℕ → List ℕ) : ℕ → ℕ → Type 0 where
  here : {u : ℕ} → Reaches deps u u
  step : {u v w : ℕ} → Edge deps u v → Reaches deps v w → Reaches deps u w

-- from u by an edge to the first of l, from each of l to the next, and from the last to w
pub data Chain (deps : ℕ → List ℕ) : ℕ → List ℕ → ℕ → Type 0 where
  last : {u w : ℕ} → Edge deps u w → Chain deps u [] w
  link : {u v w : ℕ} {l : List ℕ} → Edge deps u v → Chain deps v l w → Chain deps u (v ∷ l) w

-- nothing twice
pub data Once {A : Type 0} : List A → Type 0 where
  none : Once []
  more : {u : A} {l : List A} → (Memᴰ u l → ⊥) → Once l → Once (u ∷ l)

-- o is an order: it has exactly the reached units, each once, and each after every other unit that it lists
pub record Ordered (deps : ℕ → List ℕ) (o : List ℕ) : Type 0 where
  pub sound : (x : ℕ) → Memᴰ x o → Reaches deps 0 x
  pub complete : (x : ℕ) → Reaches deps 0 x → Memᴰ x o
  pub once : Once o
  pub after : (p q : List ℕ) (u v : ℕ) → o ≡ p ++ (u ∷ q) → Edge deps u v → Memᴰ v p

-- r is a ring: its units are different, two at least; each lists the next, and the last the first; and each is reached
pub record Ring (deps : ℕ → List ℕ) (r : List ℕ) : Type 0 where
  pub first : ℕ
  pub second : ℕ
  pub rest : List ℕ
  pub is : r ≡ first ∷ (second ∷ rest)
  pub once : Once r
  pub round : Chain deps first (second ∷ rest) first
  pub reached : (x : ℕ) → Memᴰ x r → Reaches deps 0 x

-- each of l lists the next, another unit
pub data EachLists (deps : ℕ → List ℕ) : List ℕ → Type 0 where
  one : {u : ℕ} → EachLists deps (u ∷ [])
  next : {u v : ℕ} {l : List ℕ} → Edge deps u v → EachLists deps (v ∷ l) → EachLists deps (u ∷ (v ∷ l))

-- l is where a walk stands: it begins with unit 0, each lists the next, and no unit is there twice
pub record Walk (deps : ℕ → List ℕ) (l : List ℕ) : Type 0 where
  pub after_first : List ℕ
  pub begins : l ≡ 0 ∷ after_first
  pub linked : EachLists deps l
  pub once : Once l

-- a ring as it is named: it is the end of a walk, so that it starts with the one of its units that the walk came to first
pub record Named (deps : ℕ → List ℕ) (r : List ℕ) : Type 0 where
  pub ring : Ring deps r
  pub before : List ℕ
  pub walk : Walk deps (before ++ r)

-- two different reached units, each of which is reached from the other
pub record Cyclic (deps : ℕ → List ℕ) : Type 0 where
  pub a : ℕ
  pub b : ℕ
  pub different : a ≡ b → ⊥
  pub reached : Reaches deps 0 a
  pub there : Reaches deps a b
  pub back : Reaches deps b a

-- there is a unit, and each that one of the n units lists is one of them
pub record Within (deps : ℕ → List ℕ) (n : ℕ) : Type 0 where
  pub some : 0 < n
  pub lists : (u d : ℕ) → u < n → Memᴰ d (deps u) → d < n
