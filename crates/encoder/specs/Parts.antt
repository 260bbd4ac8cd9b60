-- Buffers that are filled from their start, and parts of them that are lent on. Assumes nothing.
-- w stands at the start, and the buffer is as long as it was
use Rattle.std.specs.Prelude.{ℕ, ◌+◌, ◌-◌, ◌/◌, ◌%◌, ◌≤◌, ◌<◌, min, ◌≡◌, refl, List, [], ◌∷◌, ◌++◌}
use Rattle.std.proofs.Common.{arith, sym, ap, ◌∙◌, append_assoc, append-nil, take_at, drop_at, drop-drop, take_all, length-take-le}
use lib.ListN.{length, set, take, drop, length-append, length-drop}
use Rattle.std.proofs.Math.Seq.{drop-length}
use borrow.Rule.Slice.PartMut.{mid_of, put_mid, Post-is}
use Rattle.encoder.specs.Started.{started, put_one}

pub started-length : (w out : List ℕ) → length w ≤ length out → length (started w out) ≡ length out
started-length w out h = omega (arith, length-append w (drop (length w) out), length-drop (length w) out)

-- what is lent from a on
module _ (cur : List ℕ) (a : ℕ) (le : a ≤ length cur) where
  pub lent_is : mid_of a (length cur - a) cur ≡ drop a cur
  lent_is = take_all (length cur - a) (drop a cur) (omega (arith, length-drop a cur))

  pub lent_length : length (mid_of a (length cur - a) cur) ≡ length cur - a
  lent_length = ap length lent_is ∙ length-drop a cur

  back_is : (last : List ℕ) → put_mid a (length cur - a) cur last ≡ take a cur ++ last
  back_is last = ap (λ (l : List ℕ). take a cur ++ (last ++ l)) (Post-is a (length cur) cur le ∙ drop-length cur) ∙ ap (λ (l : List ℕ). take a cur ++ l) (append-nil last)

-- w stands at the start of cur, and x is put behind it, by way of the part that is lent
module _ (w out : List ℕ) (fits : length w ≤ length out) where
  more-filled : (x : List ℕ) → w ++ started x (drop (length w) out) ≡ started (w ++ x) out
  more-filled x =
      ap (λ (l : List ℕ). w ++ (x ++ l)) (drop-drop (length x) (length w) out ∙ ap (λ (n : ℕ). drop n out) (sym (length-append w x)))
      ∙ sym (append_assoc w x (drop (length (w ++ x)) out))

  pub then-filled : (x cur last : List ℕ) (a : ℕ) → cur ≡ started w out → a ≡ length w → last ≡ started x (mid_of a (length cur - a) cur)
      → put_mid a (length cur - a) cur last ≡ started (w ++ x) out
  then-filled x cur last a e is l =
      let n = ap length e ∙ started-length w out fits in
      let le : a ≤ length cur = omega arith in
      let t : take a cur ≡ w = ap (take a) e ∙ take_at w (drop (length w) out) a (sym is) in
      let d : drop a cur ≡ drop (length w) out = ap (drop a) e ∙ drop_at w (drop (length w) out) a (sym is) in
      back_is cur a le last
      ∙ (ap (λ (k : List ℕ). k ++ last) t
      ∙ (ap (λ (k : List ℕ). w ++ k) (l ∙ ap (started x) (lent_is cur a le ∙ d)) ∙ more-filled x))

-- the first n as they were
pub kept-start : (n : ℕ) (out : List ℕ) → n ≤ length out → out ≡ started (take n out) out
kept-start n out h =
    let l = length-take-le n out h in
    sym (ap (λ (k : ℕ). take n out ++ drop k out) l ∙ whole n out)
  where
    whole : (n : ℕ) (out : List ℕ) → take n out ++ drop n out ≡ out
    whole n out = lib.ListN.take-append-drop n out

-- a head of n bytes set at last, ahead of w
module _ (head w out : List ℕ) (n : ℕ) (is : length head ≡ n) (room : n ≤ length out) where
  pub headed : (cur final : List ℕ) → cur ≡ started (take n out ++ w) out → final ≡ head ++ drop n cur → final ≡ started (head ++ w) out
  headed cur final e f =
      let l = length-take-le n out room in
      let k : length (take n out ++ w) ≡ length (head ++ w) = length-append (take n out) w ∙ (ap (λ (m : ℕ). m + length w) (l ∙ sym is) ∙ sym (length-append head w)) in
      f
      ∙ (ap (λ (c : List ℕ). head ++ drop n c) (e ∙ append_assoc (take n out) w (drop (length (take n out ++ w)) out))
      ∙ (ap (λ (c : List ℕ). head ++ c) (drop_at (take n out) (w ++ drop (length (take n out ++ w)) out) n l)
      ∙ (ap (λ (m : ℕ). head ++ (w ++ drop m out)) k ∙ sym (append_assoc head w (drop (length (head ++ w)) out)))))

-- WALKS: of what is due in all, w was passed and `rest` is left
pub record Passed (all rest : List ℕ) : Type 0 where
  pub w : List ℕ
  pub split : all ≡ w ++ rest

-- it stands at the start of the buffer
pub record Filled (all rest out₀ out : List ℕ) (sum : ℕ) : Type 0 where
  pub passed : Passed all rest
  pub is : out ≡ started passed.w out₀
  pub count : sum ≡ length passed.w

pub filled_none : (all out : List ℕ) → Filled all all out out 0
filled_none all out = record { passed = record { w = []; split = refl }; is = refl; count = refl }

module _ (all rest out₀ out : List ℕ) (sum : ℕ) (f : Filled all rest out₀ out sum) (room : length all ≤ length out₀) where
  abbrev w : List ℕ
  w = f.passed.w

  all-length : length all ≡ sum + length rest
  all-length = ap length f.passed.split ∙ (length-append w rest ∙ ap (λ (n : ℕ). n + length rest) (sym f.count))

  pub filled-length : length out ≡ length out₀
  filled-length = ap length f.is ∙ started-length w out₀ (let e = all-length in let c = f.count in omega arith)

  pub filled-start : sum ≤ length out
  filled-start = let e = all-length in let n = filled-length in omega arith

  -- the part behind has room for what is next
  pub filled-room : (x rest' : List ℕ) → rest ≡ x ++ rest' → length x ≤ length (mid_of sum (length out - sum) out)
  filled-room x rest' e =
      let k = ap length e ∙ length-append x rest' in
      let a = all-length in
      let n = filled-length in
      let l = lent_length out sum filled-start in
      omega arith

  -- it is a part of all
  pub filled-part : (x rest' : List ℕ) → rest ≡ x ++ rest' → length x ≤ length all
  filled-part x rest' e = let k = ap length e ∙ length-append x rest' in let a = all-length in omega arith

  pub filled_more : (x rest' last : List ℕ) (n : ℕ) → rest ≡ x ++ rest' → last ≡ started x (mid_of sum (length out - sum) out) → n ≡ length x
      → Filled all rest' out₀ (put_mid sum (length out - sum) out last) (sum + n)
  filled_more x rest' last n e l k = record {
    passed = record { w = w ++ x; split = f.passed.split ∙ (ap (λ (r : List ℕ). w ++ r) e ∙ sym (append_assoc w x rest')) };
    is = then-filled w out₀ (let a = all-length in let c = f.count in omega arith) x out last sum f.is f.count l;
    count = let c = f.count in omega (arith, length-append w x);
  }

  pub filled-all : rest ≡ [] → (sum ≡ length all) × (out ≡ started all out₀)
  filled-all e =
      let s : all ≡ w = f.passed.split ∙ (ap (λ (r : List ℕ). w ++ r) e ∙ append-nil w) in
      (f.count ∙ ap length (sym s), f.is ∙ ap (λ (l : List ℕ). started l out₀) (sym s))

-- it is counted, as far as the limit
pub record Counted (all rest : List ℕ) (limit sum : ℕ) : Type 0 where
  pub passed : Passed all rest
  pub count : sum ≡ min (length passed.w) limit

pub counted_none : (all : List ℕ) (limit : ℕ) → Counted all all limit 0
counted_none all limit = record { passed = record { w = []; split = refl }; count = omega arith }

module _ (all rest : List ℕ) (limit sum : ℕ) (f : Counted all rest limit sum) where
  pub counted-more : (x rest' : List ℕ) (n next : ℕ) → rest ≡ x ++ rest' → n ≡ min (length x) limit → next ≡ min (sum + n) limit → Counted all rest' limit next
  counted-more x rest' n next e k h = record {
    passed = record { w = f.passed.w ++ x; split = f.passed.split ∙ (ap (λ (r : List ℕ). f.passed.w ++ r) e ∙ sym (append_assoc f.passed.w x rest')) };
    count = let c = f.count in omega (arith, length-append f.passed.w x);
  }

  pub counted-all : rest ≡ [] → sum ≡ min (length all) limit
  counted-all e =
      let s : all ≡ f.passed.w = f.passed.split ∙ (ap (λ (r : List ℕ). f.passed.w ++ r) e ∙ append-nil f.passed.w) in
      f.count ∙ ap (λ (l : List ℕ). min (length l) limit) (sym s)

-- STORES
-- an item's head: the 2-byte length of what follows, the kind and the visibility
abbrev pub head_bytes : ℕ → ℕ → ℕ → List ℕ
head_bytes n k v = (n / 256) ∷ (n % 256) ∷ k ∷ v ∷ []

-- three numbers set at the start, in order
pub set_three : (out o₁ o₂ : List ℕ) (a b c : ℕ) → 3 ≤ length out → o₁ ≡ set out 0 a → o₂ ≡ set (set o₁ 1 b) 2 c → o₂ ≡ (a ∷ b ∷ c ∷ []) ++ drop 3 out
set_three out o₁ o₂ a b c h e₁ e₂ = e₂ ∙ (ap (λ (l : List ℕ). set (set l 1 b) 2 c) e₁ ∙ go out h)
  where
    go : (out : List ℕ) → 3 ≤ length out → set (set (set out 0 a) 1 b) 2 c ≡ (a ∷ b ∷ c ∷ []) ++ drop 3 out
    go [] h = absurd (omega arith)
    go (_ ∷ []) h = absurd (omega arith)
    go (_ ∷ _ ∷ []) h = absurd (omega arith)
    go (_ ∷ _ ∷ _ ∷ out) h = refl

-- WHAT IS WRITTEN IN ALL: nothing, one number, or what a callee wrote
pub none_filled : (x out : List ℕ) → x ≡ [] → (0 ≡ length x) × (out ≡ started x out)
none_filled x out e = rw e (refl, refl)

pub one-filled : (x out : List ℕ) (v : ℕ) → x ≡ v ∷ [] → 0 < length out → (1 ≡ length x) × (set out 0 v ≡ started x out)
one-filled x out v e h = rw e (refl, put_one [] out 0 refl v h)

pub same-filled : (x y out last : List ℕ) (r : ℕ) → x ≡ y → (r ≡ length y) × (last ≡ started y out) → (r ≡ length x) × (last ≡ started x out)
same-filled x y out last r e h = rw e h

-- A FRONT w AND WHAT COMES BEHIND IT: the buffer cur has w at its start, and x goes into the part that is lent from there on
pub record Front (w x out cur : List ℕ) (a : ℕ) : Type 0 where
  pub starts : cur ≡ started w out
  pub is : a ≡ length w
  pub room : length (w ++ x) ≤ length out

module _ {w x out cur : List ℕ} {a : ℕ} (f : Front w x out cur a) where
  front-few : length w ≤ length out
  front-few = let r = f.room in omega (arith, length-append w x)

  pub front_long : length cur ≡ length out
  front_long = ap length f.starts ∙ started-length w out front-few

  pub front-start : a ≤ length cur
  front-start = let l = front_long in let h = front-few in let i = f.is in omega arith

  pub front-room : length x ≤ length (mid_of a (length cur - a) cur)
  front-room = let l = front_long in let n = lent_length cur a front-start in let i = f.is in let r = f.room in omega (arith, length-append w x)

  pub front_fits : (r : ℕ) → r ≡ length x → a + r ≤ length out
  front_fits r h = let i = f.is in let k = f.room in omega (arith, length-append w x)

  pub front-sum : (r : ℕ) → r ≡ length x → a + r ≡ length (w ++ x)
  front-sum r h = let i = f.is in omega (arith, length-append w x)

  pub front-all : (last : List ℕ) → last ≡ started x (mid_of a (length cur - a) cur) → put_mid a (length cur - a) cur last ≡ started (w ++ x) out
  front-all last l = then-filled w out front-few x cur last a f.starts f.is l

  -- both, as a writer tells them
  pub front-done : (last : List ℕ) (r : ℕ) → (r ≡ length x) × (last ≡ started x (mid_of a (length cur - a) cur))
      → (a + r ≡ length (w ++ x)) × (put_mid a (length cur - a) cur last ≡ started (w ++ x) out)
  front-done last r h = (front-sum r h.0, front-all last h.1)

-- two parts come behind the front: the first is written, and then it belongs to the front
module _ (x y : List ℕ) {w out cur : List ℕ} {a : ℕ} (f : Front w (x ++ y) out cur a) where
  pub front-part : length x ≤ length (mid_of a (length cur - a) cur)
  front-part = let r = front-room f in omega (arith, length-append x y)

  pub front_next : (last : List ℕ) (r : ℕ) → (r ≡ length x) × (last ≡ started x (mid_of a (length cur - a) cur)) → Front (w ++ x) y out (put_mid a (length cur - a) cur last) (a + r)
  front_next last r h =
      let n = f.room in
      let is = f.is in
      record {
        starts = then-filled w out (omega (arith, length-append w (x ++ y))) x cur last a f.starts f.is h.1;
        is = omega (arith, length-append w x);
        room = rw append_assoc n;
      }

-- a front that a function wrote, with what is to come
pub front_of : (w x out cur all : List ℕ) (a : ℕ) → (a ≡ length w) × (cur ≡ started w out) → all ≡ w ++ x → length all ≤ length out → Front w x out cur a
front_of w x out cur all a h e r = record { starts = h.1; is = h.0; room = let l = ap length e in omega arith }

-- one number at the start, and what comes behind it
module _ (out x all : List ℕ) (v : ℕ) (is : all ≡ v ∷ x) (room : length all ≤ length out) where
  pub one_some : 0 < length out
  one_some = let l = ap length is in omega arith

  pub one_front : Front (v ∷ []) x out (set out 0 v) 1
  one_front = record { starts = put_one [] out 0 refl v one_some; is = refl; room = let l = ap length is in omega arith }

-- the 2-byte length set at last, ahead of a body
pub put-length : (body out cur final : List ℕ) (n k v : ℕ) → 2 ≤ length out → cur ≡ started (take 2 out ++ (k ∷ v ∷ body)) out → final ≡ set (set cur 0 (n / 256)) 1 (n % 256)
    → final ≡ started (head_bytes n k v ++ body) out
put-length body out cur final n k v h e f = headed ((n / 256) ∷ (n % 256) ∷ []) (k ∷ v ∷ body) out 2 refl h cur final e (f ∙ go cur long)
  where
    long : 2 ≤ length cur
    long = let l = length-take-le 2 out h in omega (arith, ap length e, length-append (take 2 out ++ (k ∷ v ∷ body)) (drop (length (take 2 out ++ (k ∷ v ∷ body))) out), length-append (take 2 out) (k ∷ v ∷ body))

    go : (cur : List ℕ) → 2 ≤ length cur → set (set cur 0 (n / 256)) 1 (n % 256) ≡ ((n / 256) ∷ (n % 256) ∷ []) ++ drop 2 cur
    go [] h = absurd (omega arith)
    go (_ ∷ []) h = absurd (omega arith)
    go (_ ∷ _ ∷ cur) h = refl

-- the whole head set at last
pub put_whole : (body out cur final : List ℕ) (n k v : ℕ) → 4 ≤ length out → cur ≡ started (take 4 out ++ body) out → final ≡ head_bytes n k v ++ drop 4 cur → final ≡ started (head_bytes n k v ++ body) out
put_whole body out cur final n k v h e f = headed (head_bytes n k v) body out 4 refl h cur final e f
