-- Laws of the pieces between slashes: joined again, cut in two, counted. Assumes nothing.
use Rattle.std.specs.Prelude.{ℕ, suc, ◌+◌, ◌<◌, Bool, true, false, cond, ◌≡◌, refl, List, [], ◌∷◌, ◌++◌, eqb, length, get_or, take, drop}
use Rattle.std.proofs.Common.{suc-le-suc, arith, sym, ap, ◌∙◌, length-drop, get_or-drop}
use Rattle.std.proofs.Math.Seq.{split_at}
use borrow.Author.Tests.{ne_eqb, eqb-true}
use Rattle.names.specs.Bytes.{slash}
use Rattle.names.specs.Path.{split, onto, led, render}
use Rattle.names.specs.Prefix.{init}
use Rattle.names.specs.Pieces.{split-is}

-- the pieces, each led by a slash, are the bytes led by a slash
pub led-split : (s : List ℕ) → led (split s) ≡ slash ∷ s
unfolding split led onto
led-split [] = refl
led-split (b ∷ s) = go (eqb b slash) refl (led-split s)
  where
    go : (t : Bool) → eqb b slash ≡ t → led (split s) ≡ slash ∷ s → led (cond t ([] ∷ split s) (onto b (split s))) ≡ slash ∷ (b ∷ s)
    go true h e = let x = eqb-true b slash h in rw (e, x)
    go false h e = let x = rw split-is at e in rw split-is (cc)

-- cut at a slash
pub split_join : (u v : List ℕ) → split (u ++ (slash ∷ v)) ≡ split u ++ split v
unfolding split onto
split_join [] v = refl
split_join (b ∷ u) v = go (eqb b slash) (split_join u v)
  where
    go : (t : Bool) → split (u ++ (slash ∷ v)) ≡ split u ++ split v
        → cond t ([] ∷ split (u ++ (slash ∷ v))) (onto b (split (u ++ (slash ∷ v)))) ≡ cond t ([] ∷ split u) (onto b (split u)) ++ split v
    go true e = rw e
    go false e = rw (e, split-is u)

-- without a slash there is one piece
pub split_one : (s : List ℕ) → ((k : ℕ) → k < length s → get_or s k 0 ≡ slash → ⊥) → split s ≡ s ∷ []
unfolding split onto
split_one [] f = refl
split_one (b ∷ s) f =
    let r = split_one s (λ k h. f (suc k) (suc-le-suc h)) in
    rw (ne_eqb b slash (f 0 (omega arith)), r)

-- how many slashes there are
unfoldable pub slashes : List ℕ → ℕ
slashes [] = 0
slashes (b ∷ s) = cond (eqb b slash) (suc (slashes s)) (slashes s)

pub length-split : (s : List ℕ) → length (split s) ≡ suc (slashes s)
unfolding split onto slashes
length-split [] = refl
length-split (b ∷ s) = go (eqb b slash) (length-split s)
  where
    go : (t : Bool) → length (split s) ≡ suc (slashes s) → length (cond t ([] ∷ split s) (onto b (split s))) ≡ suc (cond t (suc (slashes s)) (slashes s))
    go true e = ap suc e
    go false e = rw split-is (rw split-is at e)

pub init_snoc : (cs : List (List ℕ)) (c : List ℕ) → init (cs ++ (c ∷ [])) ≡ cs
unfolding init
init_snoc [] c = refl
init_snoc (d ∷ []) c = refl
init_snoc (d ∷ (e ∷ cs)) c = ap (λ (l : List (List ℕ)). d ∷ l) (init_snoc (e ∷ cs) c)

-- the last slash ends the pieces but one
pub init-split : (s : List ℕ) (j : ℕ) → j < length s → get_or s j 0 ≡ slash → ((k : ℕ) → j < k → k < length s → get_or s k 0 ≡ slash → ⊥)
    → init (split s) ≡ split (take j s)
init-split s j h e f =
    let cut : s ≡ take j s ++ (slash ∷ drop (suc j) s) = split_at s j 0 h ∙ rw e in
    let one : split (drop (suc j) s) ≡ drop (suc j) s ∷ [] =
    split_one (drop (suc j) s) (λ k l. rw get_or-drop (f (suc j + k) (omega arith) (omega (arith, length-drop (suc j) s)))) in
    let joined : split (take j s ++ (slash ∷ drop (suc j) s)) ≡ split (take j s) ++ (drop (suc j) s ∷ []) =
    split_join (take j s) (drop (suc j) s) ∙ rw one in
    ap (λ (l : List ℕ). init (split l)) cut ∙ ap init joined ∙ init_snoc _ _

-- with no slash there are no pieces but the last
pub init-none : (s : List ℕ) → ((k : ℕ) → k < length s → get_or s k 0 ≡ slash → ⊥) → init (split s) ≡ []
unfolding init
init-none s f = rw (split_one s f)

pub render-split : (s : List ℕ) → render (split s) ≡ slash ∷ s
unfolding render
render-split s = rw split-is (sym (ap led (split-is s)) ∙ led-split s)
