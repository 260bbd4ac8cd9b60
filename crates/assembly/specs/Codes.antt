-- Files can be told apart, so that a fact that equates files holds in one way alone: a struct may keep it. Assumes nothing.
use Rattle.std.specs.Prelude.{ℕ, zero, suc, ◌≡◌, refl, List, [], ◌∷◌, ◌++◌}
use Rattle.std.specs.Coded.{Coded, code_by, coded×, coded_ℕ, coded_list, Coded-set, codes, le_prop}
use Rattle.std.proofs.Common.{ap, sym, ◌∙◌, append_assoc, append-nil}
use Rattle.bundle.specs.Bundle.{Text, Element, Items, none, named, use_of, module_of, ignored}
use Rattle.discovery.specs.declared.known.Known.{Known}
use Rattle.assembly.specs.Given.{OrderGiven, PlacedUnit}

-- an item without those in it and behind it, or that there are no more
pub record Word : Type 0 where
  pub sort : ℕ
  pub mark : ℕ
  pub visibility : ℕ
  pub kind : ℕ
  pub name : Text
  pub segments : List Text
  pub elements : List Element

abbrev word : ℕ → ℕ → ℕ → ℕ → Text → List Text → List Element → Word
word sort mark visibility kind name segments elements =
    record { sort = sort; mark = mark; visibility = visibility; kind = kind; name = name; segments = segments; elements = elements }

-- items as their words
words : Items → List Word
words none = word 0 0 0 0 [] [] [] ∷ []
words (named h rest) = word 1 h.mark h.visibility h.kind h.name [] [] ∷ words rest
words (use_of m v segments elements rest) = word 2 m v 0 [] segments elements ∷ words rest
words (module_of m v name inner rest) = word 3 m v 0 name [] [] ∷ (words inner ++ words rest)
words (ignored m v rest) = word 4 m v 0 [] [] [] ∷ words rest

-- and back, from the last word to the first: what was read stands in a list
first : List Items → Items
first [] = none
first (i ∷ l) = i

others : List Items → List Items
others [] = []
others (i ∷ l) = l

put : ℕ → Word → List Items → List Items
put zero w l = none ∷ l
put (suc zero) w l = named (record { kind = w.kind; mark = w.mark; visibility = w.visibility; name = w.name }) (first l) ∷ others l
put (suc (suc zero)) w l = use_of w.mark w.visibility w.segments w.elements (first l) ∷ others l
put (suc (suc (suc zero))) w l = module_of w.mark w.visibility w.name (first l) (first (others l)) ∷ others (others l)
put (suc (suc (suc (suc n)))) w l = ignored w.mark w.visibility (first l) ∷ others l

read : List Word → List Items
read [] = []
read (w ∷ l) = put w.sort w (read l)

read-words : (x : Items) (l : List Word) → read (words x ++ l) ≡ x ∷ read l
unfolding read words put first others
read-words none l = refl
read-words (named h rest) l = rw (read-words rest l) refl
read-words (use_of m v segments elements rest) l = rw (read-words rest l) refl
read-words (module_of m v name inner rest) l = rw (append_assoc (words inner) (words rest) l, read-words inner (words rest ++ l), read-words rest l) refl
read-words (ignored m v rest) l = rw (read-words rest l) refl

whole : (x : Items) → first (read (words x)) ≡ x
unfolding first read
whole x = ap (λ (l : List Word). first (read l)) (sym (append-nil (words x))) ∙ ap first (read-words x [])

text_code : Coded Text
text_code = coded_list coded_ℕ

element_code : Coded Element
element_code = code_by (Text × Text) (coded× text_code text_code) (λ e. (e.name, e.alias)) (λ p. record { name = p.0; alias = p.1 }) (λ _. refl)

word_code : Coded Word
word_code =
    code_by (ℕ × (ℕ × (ℕ × (ℕ × (Text × (List Text × List Element))))))
    (coded× coded_ℕ (coded× coded_ℕ (coded× coded_ℕ (coded× coded_ℕ (coded× text_code (coded× (coded_list text_code) (coded_list element_code)))))))
    (λ w. (w.sort, (w.mark, (w.visibility, (w.kind, (w.name, (w.segments, w.elements)))))))
    (λ p. word p.0 p.1.0 p.1.1.0 p.1.1.1.0 p.1.1.1.1.0 p.1.1.1.1.1.0 p.1.1.1.1.1.1)
    (λ _. refl)

items_code : Coded Items
items_code = code_by (List Word) (coded_list word_code) words (λ l. first (read l)) whole

-- WHAT IS GIVEN holds in one way
pub given-prop : (s : List ℕ) (k : Known) (ids : List ℕ) (units : ℕ) → IsProp (OrderGiven s k ids units)
given-prop s k ids units = hlevel (items_code, codes, Coded-set, le_prop)

pub placed-prop : (s : List ℕ) (k : Known) (u : ℕ) → IsProp (PlacedUnit s k u)
placed-prop s k u = hlevel (items_code, codes, Coded-set, le_prop)
