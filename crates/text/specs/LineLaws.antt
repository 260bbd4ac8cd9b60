-- Lines written one after another. Assumes nothing.
use Rattle.std.specs.Prelude.{ℕ, ◌+◌, ◌<◌, ◌≡◌, refl, List, [], ◌∷◌, ◌++◌, map, length, get_or, take}
use Rattle.std.proofs.Common.{add-one, sym, ap, ◌∙◌, append_assoc, append-nil, take-suc}
use Rattle.std.proofs.lemmas.List.{map-append}
use Rattle.text.specs.Words.{Text, line, lines}

pub lines-append : (a b : List (List Text)) → lines (a ++ b) ≡ lines a ++ lines b
unfolding lines
lines-append [] b = refl
lines-append (l ∷ a) b = ap (λ (t : Text). line l ++ t) (lines-append a b) ∙ sym (append_assoc (line l) (lines a) (lines b))

pub lines-one : (l : List Text) → lines (l ∷ []) ≡ line l
unfolding lines
lines-one l = append-nil (line l)

-- one more line of a list, each element's
pub lines_more : {A : Type 0} (f : A → List Text) (l : List A) (i : ℕ) (d : A) → i < length l → lines (map f (take (i + 1) l)) ≡ lines (map f (take i l)) ++ line (f (get_or l i d))
lines_more f l i d h =
    ap (λ (n : ℕ). lines (map f (take n l))) (add-one i)
    ∙ (ap (λ k. lines (map f k)) (take-suc l i d h)
    ∙ (ap lines (map-append f (take i l) (get_or l i d ∷ []))
    ∙ (lines-append (map f (take i l)) (f (get_or l i d) ∷ []) ∙ ap (λ (t : Text). lines (map f (take i l)) ++ t) (lines-one (f (get_or l i d))))))
