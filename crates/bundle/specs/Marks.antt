-- Laws of marks: every mark is the offset of its item in the bundle, and marks are different. Assumes nothing.
use Rattle.std.specs.Prelude.{ℕ, zero, suc, ◌+◌, ◌≤◌, ◌<◌, ◌≡◌, List, [], ◌∷◌, ◌++◌, length, get_or, drop}
use Rattle.std.proofs.Common.{arith, ◌∙◌, append_assoc, length-append}
use Rattle.bundle.specs.Bundle.{Text, Items, none, named, use_of, module_of, ignored, File}
use Rattle.bundle.specs.Limits.{use_kind, module_kind, ignored_kind}
use Rattle.bundle.specs.Encode.{two, string, joined, sized, element, encode_head, items, file}
use Rattle.bundle.specs.Encode.{counted as count-list}
use Rattle.bundle.specs.Form.{Marked, MarkedFiles}
pub use Rattle.bundle.specs.MarkWords.{Begins}
unfoldable pub use Rattle.bundle.specs.MarkWords.{marks_of, file_marks, Found, FoundFiles}
use Rattle.bundle.specs.Stand.{at-append, sized-length}

-- rising numbers, from low on and below high
unfoldable pub Rising : ℕ → ℕ → List ℕ → Type 0
Rising low high [] = low ≤ high
Rising low high (m ∷ l) = (low ≤ m) × Rising (suc m) high l

rising-append : (l l' : List ℕ) (a b c : ℕ) → Rising a b l → Rising b c l' → Rising a c (l ++ l')
unfolding Rising
rising-append [] [] a b c p q = omega arith
rising-append [] (m ∷ l') a b c p q = (omega (arith, q.0), q.1)
rising-append (m ∷ l) l' a b c p q = (p.0, rising-append l l' (suc m) b c p.1 q)

rising-from : (l : List ℕ) (a b c : ℕ) → a ≤ b → Rising b c l → Rising a c l
unfolding Rising
rising-from [] a b c h p = omega arith
rising-from (m ∷ l) a b c h p = (omega (arith, p.0), p.1)

rising-to : (l : List ℕ) (a b c : ℕ) → b ≤ c → Rising a b l → Rising a c l
unfolding Rising
rising-to [] a b c h p = omega arith
rising-to (m ∷ l) a b c h p = (p.0, rising-to l (suc m) b c h p.1)

-- rising numbers are different
rising-above : (l : List ℕ) (a b i : ℕ) → Rising a b l → i < length l → a ≤ get_or l i 0
unfolding Rising
rising-above [] a b i p h = absurd (omega arith)
rising-above (m ∷ l) a b zero p h = p.0
rising-above (m ∷ l) a b (suc i) p h = let r = rising-above l (suc m) b i p.1 (omega arith) in omega (arith, p.0)

pub rising-less : (l : List ℕ) (a b i j : ℕ) → Rising a b l → i < j → j < length l → get_or l i 0 < get_or l j 0
unfolding Rising
rising-less [] a b i j p h k = absurd (omega arith)
rising-less (m ∷ l) a b i zero p h k = absurd (omega arith)
rising-less (m ∷ l) a b zero (suc j) p h k = rising-above l (suc m) b j p.1 (omega arith)
rising-less (m ∷ l) a b (suc i) (suc j) p h k = rising-less l (suc m) b i j p.1 (omega arith) (omega arith)

-- an item of S bytes, then the rest
one-rising : (s : List ℕ) (m at : ℕ) (body : List ℕ) (rest : Items) → m ≡ at → Rising (at + length (sized body)) (at + length (sized body) + length (items rest)) (marks_of rest)
    → Rising at (at + length (sized body ++ items rest)) (m ∷ marks_of rest)
unfolding Rising
one-rising s m at body rest e r =
    let len : length (sized body ++ items rest) ≡ length (sized body) + length (items rest) = length-append (sized body) (items rest) in
    let ls = sized-length s body in
    let z : at + length (sized body) + length (items rest) ≡ at + length (sized body ++ items rest) = omega arith in
    (omega arith, rising-from (marks_of rest) (suc m) (at + length (sized body)) _ (omega arith) (rw z at r))

none-rising : (at : ℕ) → Rising at (at + 0) []
unfolding Rising
none-rising at = omega arith

module_rising : (s : List ℕ) (m at v : ℕ) (name : Text) (inner rest : Items) → m ≡ at
    → Rising (at + 4 + length (string name)) (at + 4 + length (string name) + length (items inner)) (marks_of inner)
    → Rising (at + length (sized (module_kind ∷ v ∷ (string name ++ items inner)))) (at + length (sized (module_kind ∷ v ∷ (string name ++ items inner))) + length (items rest)) (marks_of rest)
    → Rising at (at + length (sized (module_kind ∷ v ∷ (string name ++ items inner)) ++ items rest)) (m ∷ (marks_of inner ++ marks_of rest))
unfolding Rising
module_rising s m at v name inner rest e p q =
    let body = module_kind ∷ v ∷ (string name ++ items inner) in
    let len : length (sized body ++ items rest) ≡ length (sized body) + length (items rest) = length-append (sized body) (items rest) in
    let ls : length (sized body) ≡ 2 + suc (suc (length (string name ++ items inner))) = sized-length s body in
    let ln : length (string name ++ items inner) ≡ length (string name) + length (items inner) = length-append (string name) (items inner) in
    let z1 : at + 4 + length (string name) + length (items inner) ≡ at + length (sized body) = omega arith in
    let z2 : at + length (sized body) + length (items rest) ≡ at + length (sized body ++ items rest) = omega arith in
    let p' = rising-from (marks_of inner) (suc m) (at + 4 + length (string name)) (at + 4 + length (string name) + length (items inner)) (omega arith) p in
    (omega arith, rising-append (marks_of inner) (marks_of rest) (suc m) (at + length (sized body)) (at + length (sized body ++ items rest)) (rw z1 at p') (rw z2 at q))

-- behind a 2-byte length; behind a module's name
pub behind-length : (s : List ℕ) (at : ℕ) (body rest : List ℕ) → drop at s ≡ sized body ++ rest → drop (at + 2) s ≡ body ++ rest
unfolding sized two
behind-length s at body rest e = at-append s at (two (length body)) (body ++ rest) (e ∙ append_assoc (two (length body)) body rest)

inner-at : (s : List ℕ) (at v : ℕ) (name : Text) (inner rest : List ℕ) → drop at s ≡ sized (module_kind ∷ v ∷ (string name ++ inner)) ++ rest → drop (at + 4 + length (string name)) s ≡ inner ++ rest
inner-at s at v name inner rest e =
    let b = behind-length s at (module_kind ∷ v ∷ (string name ++ inner)) rest e in
    let c : drop (at + 2 + 2) s ≡ (string name ++ inner) ++ rest = at-append s (at + 2) (module_kind ∷ v ∷ []) ((string name ++ inner) ++ rest) b in
    let z : at + 2 + 2 ≡ at + 4 = omega arith in
    at-append s (at + 4) (string name) (inner ++ rest) (rw z at c ∙ append_assoc (string name) inner rest)

items-rising : (s : List ℕ) (x : Items) (at : ℕ) → Marked x at → Rising at (at + length (items x)) (marks_of x)
unfolding Marked items marks_of
items-rising s none at p = none-rising at
items-rising s (named head rest) at p = one-rising s head.mark at (encode_head head) rest p.0 (items-rising s rest (at + length (sized (encode_head head))) p.1)
items-rising s (use_of m v segments elements rest) at p =
    let body = use_kind ∷ v ∷ (count-list string segments ++ count-list element elements) in
    one-rising s m at body rest p.0 (items-rising s rest (at + length (sized body)) p.1)
items-rising s (ignored m v rest) at p = one-rising s m at (ignored_kind ∷ v ∷ []) rest p.0 (items-rising s rest (at + length (sized (ignored_kind ∷ v ∷ []))) p.1)
items-rising s (module_of m v name inner rest) at p =
    let body = module_kind ∷ v ∷ (string name ++ items inner) in
    module_rising s m at v name inner rest p.0 (items-rising s inner (at + 4 + length (string name)) p.1.0) (items-rising s rest (at + length (sized body)) p.1.1)

pub files-rising : (s : List ℕ) (l : List File) (at : ℕ) → MarkedFiles l at → Rising at (at + length (joined file l)) (file_marks l)
unfolding MarkedFiles joined file_marks file
files-rising s [] at p = none-rising at
files-rising s (f ∷ l) at p =
    let X = string f.path in
    let Y = items f.items in
    let lx : length (X ++ sized Y) ≡ length X + length (sized Y) = length-append X (sized Y) in
    let ly = sized-length s Y in
    let len : length ((X ++ sized Y) ++ joined file l) ≡ length (X ++ sized Y) + length (joined file l) = length-append (X ++ sized Y) (joined file l) in
    let a = rising-from (marks_of f.items) at (at + length X + 2) _ (omega arith) (items-rising s f.items (at + length X + 2) p.0) in
    let b = files-rising s l (at + length (X ++ sized Y)) p.1 in
    let z1 : at + length X + 2 + length Y ≡ at + length (X ++ sized Y) = omega arith in
    let z2 : at + length (X ++ sized Y) + length (joined file l) ≡ at + length ((X ++ sized Y) ++ joined file l) = omega arith in
    rising-append (marks_of f.items) (file_marks l) at (at + length (X ++ sized Y)) (at + length ((X ++ sized Y) ++ joined file l)) (rw z1 at a) (rw z2 at b)

-- THE BYTES AT A MARK
begins : (s : List ℕ) (m at : ℕ) (x y : List ℕ) → m ≡ at → drop at s ≡ x ++ y → Begins s m x
begins s m at x y e h = record { rest = y; bytes = rw e h }

pub items-found : (s : List ℕ) (x : Items) (at : ℕ) (rest : List ℕ) → Marked x at → drop at s ≡ items x ++ rest → Found s x
unfolding Marked items Found
items-found s none at rest p e = tt
items-found s (named head r) at rest p e =
    let S = sized (encode_head head) in
    let e1 = e ∙ append_assoc S (items r) rest in
    (begins s head.mark at S (items r ++ rest) p.0 e1, items-found s r (at + length S) rest p.1 (at-append s at S (items r ++ rest) e1))
items-found s (use_of m v segments elements r) at rest p e =
    let S = sized (use_kind ∷ v ∷ (count-list string segments ++ count-list element elements)) in
    let e1 = e ∙ append_assoc S (items r) rest in
    (begins s m at S (items r ++ rest) p.0 e1, items-found s r (at + length S) rest p.1 (at-append s at S (items r ++ rest) e1))
items-found s (ignored m v r) at rest p e =
    let S = sized (ignored_kind ∷ v ∷ []) in
    let e1 = e ∙ append_assoc S (items r) rest in
    (begins s m at S (items r ++ rest) p.0 e1, items-found s r (at + length S) rest p.1 (at-append s at S (items r ++ rest) e1))
items-found s (module_of m v name inner r) at rest p e =
    let S = sized (module_kind ∷ v ∷ (string name ++ items inner)) in
    let e1 = e ∙ append_assoc S (items r) rest in
    let i : drop (at + 4 + length (string name)) s ≡ items inner ++ (items r ++ rest) = inner-at s at v name (items inner) (items r ++ rest) e1 in
    (begins s m at S (items r ++ rest) p.0 e1, (items-found s inner (at + 4 + length (string name)) (items r ++ rest) p.1.0 i, items-found s r (at + length S) rest p.1.1 (at-append s at S (items r ++ rest) e1)))

pub files-found : (s : List ℕ) (l : List File) (at : ℕ) (rest : List ℕ) → MarkedFiles l at → drop at s ≡ joined file l ++ rest → FoundFiles s l
unfolding MarkedFiles joined FoundFiles file
files-found s [] at rest p e = tt
files-found s (f ∷ l) at rest p e =
    let X = string f.path in
    let Y = items f.items in
    let R = joined file l ++ rest in
    let e1 : drop at s ≡ (X ++ sized Y) ++ R = e ∙ append_assoc (X ++ sized Y) (joined file l) rest in
    let e2 : drop (at + length X) s ≡ sized Y ++ R = at-append s at X (sized Y ++ R) (e1 ∙ append_assoc X (sized Y) R) in
    let e3 : drop (at + length X + 2) s ≡ Y ++ R = behind-length s (at + length X) Y R e2 in
    (items-found s f.items (at + length X + 2) R p.0 e3, files-found s l (at + length (X ++ sized Y)) rest p.1 (at-append s at (X ++ sized Y) R e1))
