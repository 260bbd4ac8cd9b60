-- "Uses in item order, inline modules included": a file's uses are all that stand among its items, at any depth, in the order of
-- their places in the bundle. Assumes nothing.
use Rattle.std.specs.Prelude.{ℕ, suc, ◌<◌, length, get_or}
use Rattle.std.proofs.Common.{suc-le-suc, arith, sym, subst, ⊎_elim}
use mathlib.Core.List.Memᴰ
use mathlib.Core.List.{List, [], ◌∷◌, ◌++◌, map, append-nil, Memᴰ}
use Rattle.names.specs.Bytes.{same}
use Rattle.bundle.specs.Bundle.{Text, Items, none, named, use_of, module_of, ignored, File, Bundle}
use Rattle.bundle.specs.Form.{WellFormed}
use Rattle.bundle.specs.Marks.{marks_of, file_marks}
use Rattle.bundle.specs.Theorems.{marks-rise}
use Rattle.discovery.specs.Discovery.{Use, uses, program_of}
use Rattle.discovery.specs.InTurn.{Stands, here, inside, after_named, after_use, after_module, after_ignored, Increasing}
use Rattle.discovery.specs.InTurn as turn
use Rattle.discovery.specs.Facts.{cond_elim, mem_get_d, map-append}

-- INCLUDED
-- a use of the file stands among its items
pub uses_stand : (x : Items) {u : Use} → Memᴰ u (uses x) → Stands u x
unfolding uses
uses_stand none m = absurd (Memᴰ.not-nil m)
uses_stand (named head rest) m = after_named (uses_stand rest m)
uses_stand (use_of mark v segments elements rest) m = ⊎_elim (λ e. here e) (λ w. after_use (uses_stand rest w)) (Memᴰ.cases_cons m)
uses_stand (module_of mark v name inner rest) m =
    ⊎_elim (λ w. inside (uses_stand inner w)) (λ w. after_module (uses_stand rest w)) (Memᴰ.append_cases (uses inner) m)
uses_stand (ignored mark v rest) m = after_ignored (uses_stand rest m)

-- and what stands among them, in inline modules too, is a use of the file
pub standing_used : {u : Use} {x : Items} → Stands u x → Memᴰ u (uses x)
unfolding uses
standing_used (here e) = Memᴰ.head e
standing_used (inside s) = Memᴰ.append_left _ (standing_used s)
standing_used (after_named s) = standing_used s
standing_used (after_use s) = Memᴰ.tail (standing_used s)
standing_used (after_module {inner = inner} s) = Memᴰ.append_right (uses inner) (standing_used s)
standing_used (after_ignored s) = standing_used s

-- IN ITEM ORDER
-- a list with some left out
data Part : List ℕ → List ℕ → Type 0 where
  no_part : Part [] []
  keep : {m : ℕ} {l k : List ℕ} → Part l k → Part (m ∷ l) (m ∷ k)
  skip : {m : ℕ} {l k : List ℕ} → Part l k → Part l (m ∷ k)

part_none : (k : List ℕ) → Part [] k
part_none [] = no_part
part_none (m ∷ k) = skip (part_none k)

part-all : (k : List ℕ) → Part k k
part-all [] = no_part
part-all (m ∷ k) = keep (part-all k)

part-append : {l k l' k' : List ℕ} → Part l k → Part l' k' → Part (l ++ l') (k ++ k')
part-append no_part q = q
part-append (keep p) q = keep (part-append p q)
part-append (skip p) q = skip (part-append p q)

part_mem : {l k : List ℕ} {x : ℕ} → Part l k → Memᴰ x l → Memᴰ x k
part_mem no_part m = m
part_mem (keep p) m = ⊎_elim (λ e. Memᴰ.head e) (λ w. Memᴰ.tail (part_mem p w)) (Memᴰ.cases_cons m)
part_mem (skip p) m = Memᴰ.tail (part_mem p m)

part_increasing : {l k : List ℕ} → Part l k → Increasing k → Increasing l
part_increasing no_part i = i
part_increasing (keep p) (turn.more f i) = turn.more (λ x m. f x (part_mem p m)) (part_increasing p i)
part_increasing (skip p) (turn.more f i) = part_increasing p i

-- numbers that rise from place to place
increasing : (l : List ℕ) → ((i j : ℕ) → i < j → j < length l → get_or l i 0 < get_or l j 0) → Increasing l
increasing [] h = turn.none
increasing (m ∷ l) h =
    turn.more {l = l}
    (λ x w. let t = mem_get_d 0 w in subst (λ (y : ℕ). m < y) t.1.1 (h 0 (suc t.0) (omega arith) (suc-le-suc t.1.0)))
    (increasing l (λ i j a c. h (suc i) (suc j) (suc-le-suc a) (suc-le-suc c)))

uses-part : (x : Items) → Part (map (λ u. u.mark) (uses x)) (marks_of x)
unfolding uses marks_of
uses-part none = no_part
uses-part (named head rest) = skip (uses-part rest)
uses-part (use_of m v segments elements rest) = keep (uses-part rest)
uses-part (module_of m v name inner rest) =
    skip
    (subst (λ (l : List ℕ). Part l (marks_of inner ++ marks_of rest)) (sym (map-append (λ (u : Use). u.mark) (uses inner) (uses rest)))
    (part-append (uses-part inner) (uses-part rest)))
uses-part (ignored m v rest) = skip (uses-part rest)

file-part : (fs : List File) (p : Text) → Part (marks_of (program_of fs p)) (file_marks fs)
unfolding program_of file_marks marks_of
file-part [] p = no_part
file-part (f ∷ fs) p =
    cond_elim (λ x. Part (marks_of x) (marks_of f.items ++ file_marks fs)) (same p f.path)
    (λ e. subst (λ (l : List ℕ). Part l (marks_of f.items ++ file_marks fs)) (append-nil (marks_of f.items)) (part-append (part-all (marks_of f.items)) (part_none (file_marks fs))))
    (λ e. part-append (part_none (marks_of f.items)) (file-part fs p))

-- the marks of a file's uses, which are their offsets in an accepted bundle, rise: no use is told after one that follows it
pub uses-rise : (b : Bundle) → WellFormed b → (f : Text) → Increasing (map (λ u. u.mark) (uses (program_of b.files f)))
uses-rise b w f =
    part_increasing (uses-part (program_of b.files f))
    (part_increasing (file-part b.files f) (increasing (file_marks b.files) (marks-rise b w)))
