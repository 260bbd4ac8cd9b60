-- Two models whose parts agree answer alike and stay alike, call after call. Assumes nothing.
use Rattle.std.specs.Prelude.{ℕ, suc, ◌≡◌, Bool, true, false, cond, not, ◌||◌, ◌&&◌, ltb}
use Rattle.std.proofs.Math.Path.{refl}
use mathlib.Core.List.{List, [], ◌∷◌}
use Rattle.names.specs.declared.Name.{Name}
use Rattle.scope_tree.specs.Step.{declared, used, Head, Alike, copy_of, Elem, Call, enter, exit, alias, enum, function, use', get_alias, get_function, bad, Answer, Found, missing, got, Model, Tried, done, fail, is_got, told_mark, shared, any_main, is_done, number, after, head, bind, held, full, deep, pass, nav, import, attempt, judge, element, stage, use_of, fresh, settle, close, step, run}

-- an entry's origin: a declaration, or a public entry of that kind and mark
pub data Origin (K : ℕ → Head → Type 0) (h : Head) : Type 0 where
  made : h.came ≡ declared → Origin K h
  taken : (i : ℕ) (g : Head) → h.came ≡ used i → Alike g h → g.vis ≡ true → K i g → Origin K h

-- both found nothing, or the same entry with insides that correspond
pub data SameFound {C D : Type 0} (S : C → D → Type 0) (K : ℕ → Head → Type 0) : Found C → Found D → Type 0 where
  no_one : SameFound S K missing missing
  both : {i : ℕ} {h : Head} {c : C} {d : D} → K i h → S c d → SameFound S K (got i h c) (got i h d)

pub data SameTried {A B : Type 0} (P : A → B → Type 0) : Tried A → Tried B → Type 0 where
  dones : {a : A} {b : B} → P a b → SameTried P (done a) (done b)
  fails : {n : ℕ} → SameTried P (fail n) (fail n)

pub cond_both : {A B : Type 0} (P : A → B → Type 0) (b : Bool) {x y : A} {u v : B} → P x u → P y v → P (cond b x y) (cond b u v)
cond_both P true p q = p
cond_both P false p q = q

pub cond-known : {A B : Type 0} (P : A → B → Type 0) (b : Bool) {x y : A} {u v : B} → (b ≡ true → P x u) → (b ≡ false → P y v) → P (cond b x y) (cond b u v)
cond-known P true p q = p refl
cond-known P false p q = q refl

module _ {X C Y D : Type 0} (M : Model X C) (N : Model Y D) (R : X → Y → Type 0) (S : Y → C → D → Type 0) (K : Y → ℕ → Head → Type 0) where
  pub record Simulation : Type 0 where
    pub empty_ok : (y : Y) → S y M.empty N.empty
    pub root_ok : (x : X) (y : Y) → R x y → S y (M.root x) (N.root y)
    pub here_ok : (x : X) (y : Y) → R x y → S y (M.here x) (N.here y)
    pub find_ok : (y : Y) (c : C) (d : D) → S y c d → (k : ℕ) (n : Name) → SameFound (S y) (K y) (M.find c k n) (N.find d k n)
    pub names_ok : (x : X) (y : Y) → R x y → M.names x ≡ N.names y
    pub count_ok : (x : X) (y : Y) → R x y → M.count x ≡ N.count y
    pub add_ok : (x : X) (y : Y) (h : Head) (c : C) (d : D) → R x y → held N y h.kind h.name ≡ false → Origin (K y) h → S y c d → R (M.add x h c) (N.add y h d)
    pub add_stays : (y : Y) (h : Head) (e : D) (c : C) (d : D) → S y c d → S (N.add y h e) c d
    pub open_ok : (x : X) (y : Y) (h : Head) → R x y → h.came ≡ declared → h.kind ≡ 3 → held N y 3 h.name ≡ false → R (M.opened x h) (N.opened y h)
    pub close_ok : (x : X) (y : Y) → R x y → R (M.closed x) (N.closed y)

-- what holds after entries were added
pub record Next {X C Y D : Type 0} (R : X → Y → Type 0) (S : Y → C → D → Type 0) (y : Y) (x' : X) (y' : Y) : Type 0 where
  pub rel : R x' y'
  pub stays : (c : C) (d : D) → S y c d → S y' c d

abbrev Agree : {X Y : Type 0} → (X → Y → Type 0) → X × Answer → Y × Answer → Type 0
Agree R p q = R p.0 q.0 × (p.1 ≡ q.1)

module _ {X C Y D : Type 0} {M : Model X C} {N : Model Y D} {R : X → Y → Type 0} {S : Y → C → D → Type 0} {K : Y → ℕ → Head → Type 0} (Z : Simulation M N R S K) where
  same-got : {y : Y} {f : Found C} {g : Found D} → SameFound (S y) (K y) f g → is_got f ≡ is_got g
  same-got no_one = refl
  same-got (both k s) = refl

  same-mark : {y : Y} {f : Found C} {g : Found D} → SameFound (S y) (K y) f g → told_mark f ≡ told_mark g
  same-mark no_one = refl
  same-mark (both k s) = refl

  found : (x : X) (y : Y) → R x y → (k : ℕ) (n : Name) → SameFound (S y) (K y) (M.find (M.here x) k n) (N.find (N.here y) k n)
  found x y r k n = Z.find_ok y _ _ (Z.here_ok x y r) k n

  same-held : (x : X) (y : Y) → R x y → (k : ℕ) (n : Name) → held M x k n ≡ held N y k n
  same-held x y r k n = same-got (found x y r k n)

  pass-ok : (y : Y) (sh ind : ℕ) (f : Found C) (g : Found D) (k : C → Tried C) (l : D → Tried D) → SameFound (S y) (K y) f g
      → ((c : C) (d : D) → S y c d → SameTried (S y) (k c) (l d)) → SameTried (S y) (pass M sh ind f k) (pass N sh ind g l)
  pass-ok y sh ind f g k l no_one t = fails
  pass-ok y sh ind f g k l (both {h} {c} {d} kn s) t = cond_both (SameTried (S y)) (not h.vis && ltb sh ind) fails (t c d s)

  nav-ok : (y : Y) (sh ind : ℕ) (p : List Name) (c : C) (d : D) → S y c d → SameTried (S y) (nav M sh ind p c) (nav N sh ind p d)
  unfolding nav
  nav-ok y sh ind [] c d s = dones s
  nav-ok y sh ind (n ∷ p) c d s =
      pass-ok y sh ind (M.find c 3 n) (N.find d 3 n) (nav M sh (suc ind) p) (nav N sh (suc ind) p) (Z.find_ok y c d s 3 n) (λ c' d' s'. nav-ok y sh (suc ind) p c' d' s')

  import-ok : (x : X) (y : Y) (v : Bool) (l : Name) (f : Found C) (g : Found D) → R x y → SameFound (S y) (K y) f g → SameTried (Next R S y) (import M v l x f) (import N v l y g)
  import-ok x y v l f g r no_one = fails
  import-ok x y v l f g r (both {i} {h} {c} {d} kn s) =
      rw (same-held x y r h.kind l) (go h.vis refl)
    where
      go : (b : Bool) → h.vis ≡ b
          → SameTried (Next R S y)
          (cond b (cond (held N y h.kind l) (fail 45) (done (M.add x (copy_of i h l v) c))) (fail 44))
          (cond b (cond (held N y h.kind l) (fail 45) (done (N.add y (copy_of i h l v) d))) (fail 44))
      go true e =
          cond-known (SameTried (Next R S y)) (held N y h.kind l) (λ t. fails)
          (λ t. dones (record {
            rel = Z.add_ok x y _ c d r t (taken i h refl (refl, refl) e kn) s;
            stays = λ c' d' s'. Z.add_stays y _ d c' d' s';
          }))
      go false e = fails

  same-done : {A B : Type 0} {P : A → B → Type 0} {a : Tried A} {b : Tried B} → SameTried P a b → (is_done a ≡ is_done b) × (number a ≡ number b)
  same-done (dones h) = (refl, refl)
  same-done fails = (refl, refl)

  same_after : (x : X) (y : Y) (a : Tried X) (b : Tried Y) → R x y → SameTried (Next R S y) a b → Next R S y (after a x) (after b y)
  same_after x y a b r (dones h) = h
  same_after x y a b r fails = record { rel = r; stays = λ c d s. s }

  judge-ok : (y : Y) (a : Tried X) (b : Tried Y) (a' : Tried X) (b' : Tried Y) (a'' : Tried X) (b'' : Tried Y) (x' : X) (y' : Y)
      → (is_done a ≡ is_done b) × (number a ≡ number b) → (is_done a' ≡ is_done b') × (number a' ≡ number b') → (is_done a'' ≡ is_done b'') × (number a'' ≡ number b'')
      → Next R S y x' y' → SameTried (Next R S y) (judge M a a' a'' x') (judge N b b' b'' y')
  judge-ok y a b a' b' a'' b'' x' y' p q w n =
      rw (p.0, p.1, q.0, q.1, w.0, w.1) (cond_both (SameTried (Next R S y)) (is_done b || (is_done b' || is_done b'')) (dones n) fails)

  element-ok : (x : X) (y : Y) (c : C) (d : D) (v : Bool) (e : Elem) → R x y → S y c d → SameTried (Next R S y) (element M c v e x) (element N d v e y)
  unfolding element
  element-ok x y c d v e r s =
      let a₁ = attempt M c v e 1 x in
      let b₁ = attempt N d v e 1 y in
      let t₁ : SameTried (Next R S y) a₁ b₁ = import-ok x y v e.local _ _ r (Z.find_ok y c d s 1 e.name) in
      let n₁ = same_after x y a₁ b₁ r t₁ in
      let s₁ = n₁.stays c d s in
      let x₁ = after a₁ x in
      let y₁ = after b₁ y in
      let a₂ = attempt M c v e 2 x₁ in
      let b₂ = attempt N d v e 2 y₁ in
      let t₂ : SameTried (Next R S y₁) a₂ b₂ = import-ok x₁ y₁ v e.local _ _ n₁.rel (Z.find_ok y₁ c d s₁ 2 e.name) in
      let n₂ = same_after x₁ y₁ a₂ b₂ n₁.rel t₂ in
      let s₂ = n₂.stays c d s₁ in
      let x₂ = after a₂ x₁ in
      let y₂ = after b₂ y₁ in
      let a₃ = attempt M c v e 3 x₂ in
      let b₃ = attempt N d v e 3 y₂ in
      let t₃ : SameTried (Next R S y₂) a₃ b₃ = import-ok x₂ y₂ v e.local _ _ n₂.rel (Z.find_ok y₂ c d s₂ 3 e.name) in
      let n₃ = same_after x₂ y₂ a₃ b₃ n₂.rel t₃ in
      judge-ok y a₁ b₁ a₂ b₂ a₃ b₃ (after a₃ x₂) (after b₃ y₂) (same-done t₁) (same-done t₂) (same-done t₃)
      (record { rel = n₃.rel; stays = λ c' d' s'. n₃.stays c' d' (n₂.stays c' d' (n₁.stays c' d' s')) })

  bind_ok : {A B A' B' : Type 0} {P : A → B → Type 0} {Q : A' → B' → Type 0} {a : Tried A} {b : Tried B} {f : A → Tried A'} {g : B → Tried B'}
      → SameTried P a b → ((x : A) (y : B) → P x y → SameTried Q (f x) (g y)) → SameTried Q (bind a f) (bind b g)
  bind_ok (dones {a = x} {b = y} h) k = k x y h
  bind_ok fails k = fails

  stage-ok : (es : List Elem) (x : X) (y : Y) (c : C) (d : D) (v : Bool) → R x y → S y c d → SameTried R (stage M c v es x) (stage N d v es y)
  unfolding stage
  stage-ok [] x y c d v r s = dones r
  stage-ok (e ∷ es) x y c d v r s =
      bind_ok (element-ok x y c d v e r s) (λ x' y' n. stage-ok es x' y' c d v n.rel (n.stays c d s))

  use_ok : (x : X) (y : Y) (led : Bool) (p : List Name) (v : Bool) (es : List Elem) → R x y → SameTried R (use_of M x led p v es) (use_of N y led p v es)
  use_ok x y led p v es r =
      rw (Z.names_ok x y r)
      (cond_both (SameTried R) led
      (bind_ok (nav-ok y (shared (N.names y) p) 0 p _ _ (Z.root_ok x y r)) (λ c d s. cond_both (SameTried R) (any_main es) fails (stage-ok es x y c d v r s)))
      fails)

  settle-ok : (x : X) (y : Y) (a : Tried X) (b : Tried Y) → R x y → SameTried R a b → Agree R (settle M x a) (settle N y b)
  settle-ok x y a b r (dones {a = x'} {b = y'} h) =
      rw (Z.count_ok x' y' h, Z.names_ok x' y' h) (cond_both (Agree R) (full N y' || deep N y') (r, refl) (h, refl))
  settle-ok x y a b r fails = (r, refl)

  fresh_ok : (x : X) (y : Y) (k : ℕ) (n : Name) (num : ℕ) (x' : X) (y' : Y) → R x y → (held N y k n ≡ false → R x' y') → SameTried R (fresh M x k n num x') (fresh N y k n num y')
  fresh_ok x y k n num x' y' r r' = rw (same-held x y r k n) (cond-known (SameTried R) (held N y k n) (λ e. fails) (λ e. dones (r' e)))

  item_ok : (x : X) (y : Y) (k : ℕ) (n : Name) (num : ℕ) (v : Bool) (m : ℕ) → R x y
      → Agree R (settle M x (fresh M x k n num (M.add x (head k n v m declared) M.empty))) (settle N y (fresh N y k n num (N.add y (head k n v m declared) N.empty)))
  item_ok x y k n num v m r =
      settle-ok x y _ _ r (fresh_ok x y k n num _ _ r (λ e. Z.add_ok x y _ _ _ r e (made refl) (Z.empty_ok y)))

  close-both : (x : X) (y : Y) (ns : List Name) → R x y → Agree R (close M x ns) (close N y ns)
  close-both x y [] r = (r, refl)
  close-both x y (n ∷ ns) r = (Z.close_ok x y r, refl)

  pub step_ok : (x : X) (y : Y) (c : Call) → R x y → Agree R (step M x c) (step N y c)
  unfolding step
  step_ok x y (enter n v m) r = settle-ok x y _ _ r (fresh_ok x y 3 n 47 _ _ r (λ e. Z.open_ok x y _ r refl refl e))
  step_ok x y exit r = rw (Z.names_ok x y r) (close-both x y (N.names y) r)
  step_ok x y (alias n v m) r = item_ok x y 1 n 48 v m r
  step_ok x y (enum n v m) r = item_ok x y 1 n 48 v m r
  step_ok x y (function n v m) r = item_ok x y 2 n 49 v m r
  step_ok x y (use' led p v es) r = settle-ok x y _ _ r (use_ok x y led p v es r)
  step_ok x y (get_alias n) r = (r, same-mark (found x y r 1 n))
  step_ok x y (get_function n) r = (r, same-mark (found x y r 2 n))
  step_ok x y (bad n) r = (r, refl)

  pub run_ok : (cs : List Call) (x : X) (y : Y) → R x y → R (run M x cs).0 (run N y cs).0 × ((run M x cs).1 ≡ (run N y cs).1)
  unfolding run
  run_ok [] x y r = (r, refl)
  run_ok (c ∷ cs) x y r =
      let s = step_ok x y c r in
      let t = run_ok cs (step M x c).0 (step N y c).0 s.0 in
      let e₁ : (step M x c).1 ≡ (step N y c).1 = s.1 in
      let e₂ : (run M (step M x c).0 cs).1 ≡ (run N (step N y c).0 cs).1 = t.1 in
      (t.0, cc)
