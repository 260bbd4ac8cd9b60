-- What the card's walks mean in resolution: the package root of a listed path is the nearest root at or above it; of two contexts above a
-- file the longer lies below the other; a segment is a child of a folder. Assumes nothing.
use Rattle.std.specs.Prelude.{ℕ, suc, ◌+◌, ◌-◌, ◌≤◌, ◌<◌, Bool, cond, ◌⊎◌, ◌≡◌, refl, leb, ltb, length, get_or, Option, None, Some, option_map}
use Rattle.std.specs.Option.{option_eq}
use Rattle.std.proofs.Common.{arith, inl, inr, ⊎_elim, ap, subst, ◌∙◌, length-append}
use Rattle.std.proofs.Math.Bool.{true, false}
use Rattle.std.proofs.Math.Path.{sym}
use mathlib.Core.List.Memᴰ
use mathlib.Core.List.{List, [], ◌∷◌, map, Memᴰ}
use Rattle.std.proofs.Math.Dec.{eqb}
use borrow.Author.Tests.{ne_eqb, eqb-true, eqb-false, le-leb, lt-leb, ltb-true, ltb-false}
use Rattle.names.specs.Bytes.{slash, same, same-eq, same_refl, different, member, and_left, and_right, false_true}
use Rattle.names.specs.Path.{root, is_path, components, component_limit}
use Rattle.names.specs.Prefix.{begins, starts_with, directly_in}
use Rattle.names.specs.PathTheorems.{form, followed, equal-prefixes, starts_with_refl}
use Rattle.bundle.specs.Bundle.{Text, Remapping}
use Rattle.bundle.specs.Members.{member_true, mem_member}
use Rattle.card.specs.declared.parts.Card.{Card}
use Rattle.card.specs.Layout.{node_limit, parent_at, root_at}
use Rattle.card.specs.Tree.{Tree, directly_is}
use Rattle.card.specs.Index.{Hit}
use Rattle.card.specs.Card.{CardOf, nodes_in, is_at}
use Rattle.card.specs.Laws.{in_folders, in_files, node-folder, node-file, nearest, Nearest, nearest-is}
use Rattle.resolution.specs.Lists.{Lists}
use Rattle.resolution.specs.Resolution.{package_roots, get_package_root, same_root, check_local_file_imported_as_external, to}
use Rattle.resolution.specs.Call.{position, answer}
use Rattle.resolution.specs.Theorems.{rooted, none-rooted, position-is, position-small}
use Rattle.resolution.specs.Indices.{lists_in, path_in, IsFolder, resolved_at, Listed, no_remapping}
use Rattle.resolution.specs.Results.{File, Folder}

-- PREFIXES
-- a prefix is no longer
starts-length : (f p : Text) → is_path f ≡ true → is_path p ≡ true → starts_with f p ≡ true → length p ≤ length f
starts-length f p hf hp h = go (same p root) refl
  where
    some_byte : (f : Text) → get_or f 0 0 ≡ slash → 1 ≤ length f
    some_byte [] e = absurd (omega arith)
    some_byte (b ∷ f) e = omega arith

    not_root : same p root ≡ false → p ≡ root → ⊥
    not_root e z = false_true (sym e ∙ rw z (same_refl root))

    go : (u : Bool) → same p root ≡ u → length p ≤ length f
    go true e = omega (arith, ap length (same-eq p root e), some_byte f (form f hf).led_by)
    go false e = ⊎_elim (λ z. omega (arith, ap length z)) (λ r. omega (arith, ap length r.1, length-append p (slash ∷ r.0))) (followed f p hf hp (not_root e) h)

-- of two prefixes one begins with the other
either_begins : (fs ps qs : List Text) → begins fs ps ≡ true → begins fs qs ≡ true → (begins ps qs ≡ true) ⊎ (begins qs ps ≡ true)
unfolding begins
either_begins fs [] qs h k = inr refl
either_begins fs (p ∷ ps) [] h k = inl refl
either_begins [] (p ∷ ps) (q ∷ qs) h k = absurd (false_true h)
either_begins (f ∷ fs) (p ∷ ps) (q ∷ qs) h k =
    let x = same-eq f p (and_left (same f p) (begins fs ps) h) in
    let y = same-eq f q (and_left (same f q) (begins fs qs) k) in
    let e : p ≡ q = sym x ∙ y in
    ⊎_elim (λ z. inl (rw (e, same_refl q) z)) (λ z. inr (rw (e, same_refl q) z))
    (either_begins fs ps qs (and_right (same f p) (begins fs ps) h) (and_right (same f q) (begins fs qs) k))

-- the longer one lies below the other
pub prefix-order : (f p q : Text) → is_path p ≡ true → is_path q ≡ true → starts_with f p ≡ true → starts_with f q ≡ true → starts_with p q ≡ leb (length q) (length p)
unfolding starts_with
prefix-order f p q hp hq h k = go (starts_with p q) refl
  where
    other : starts_with p q ≡ false → (starts_with p q ≡ true) ⊎ (starts_with q p ≡ true) → length q ≤ length p → ⊥
    other e (inl z) l = false_true (sym e ∙ z)
    other e (inr z) l =
        let m = starts-length q p hq hp z in
        let i = equal-prefixes f p q hp hq h k (omega arith) in
        false_true (sym e ∙ rw i (starts_with_refl q))

    either : (starts_with p q ≡ true) ⊎ (starts_with q p ≡ true)
    either = either_begins (components f) (components p) (components q) h k

    less : (m n : ℕ) → (n ≤ m → ⊥) → m < n
    less m n a = omega arith

    go : (u : Bool) → starts_with p q ≡ u → u ≡ leb (length q) (length p)
    go true e = sym (le-leb _ _ (starts-length p q hp hq e))
    go false e = sym (lt-leb _ _ (less (length p) (length q) (other e either)))

-- THE PACKAGE ROOT
-- each root is a listed folder (9), and the marks are on the roots
pub record Marked (ps roots : List Text) (mark : ℕ → Bool) : Type 0 where
  pub of : (i : ℕ) → i < length ps → mark i ≡ member (get_or ps i []) roots
  pub listed : (p : Text) → Memᴰ p roots → (i : ℕ) × ((i < length ps) × (get_or ps i [] ≡ p))

module _ (b : Lists) {ps : List Text} {par : ℕ → ℕ} (T : Tree ps par) (mark : ℕ → Bool) (M : Marked ps (package_roots b) mark) where
  pub root-nearest : (f : ℕ) → f < length ps → get_package_root b (get_or ps f []) ≡ option_map (λ i. get_or ps i []) (nearest component_limit par mark f)
  root-nearest f h = go (get_package_root b (get_or ps f [])) (nearest component_limit par mark f) refl (nearest-is T mark f h)
    where
      marked : (p : Text) → Memᴰ p (package_roots b) → (i : ℕ) → i < length ps → get_or ps i [] ≡ p → mark i ≡ true
      marked p m i l e = M.of i l ∙ rw e (mem_member m)

      is-root : (a : ℕ) → a < length ps → mark a ≡ true → Memᴰ (get_or ps a []) (package_roots b)
      is-root a l m = member_true (get_or ps a []) (package_roots b) (sym (M.of a l) ∙ m)

      go : (o : Option Text) (q : Option ℕ) → get_package_root b (get_or ps f []) ≡ o → Nearest T mark f q → o ≡ option_map (λ i. get_or ps i []) q
      go (Some p) (Some a) e N =
          let R = rooted b (get_or ps f []) p e in
          let i = M.listed p R.listed in
          let hp : is_path p ≡ true = sym (ap is_path i.1.1) ∙ T.formed i.0 i.1.0 in
          let ha = T.formed a N.listed in
          let pre : starts_with (get_or ps f []) (get_or ps i.0 []) ≡ true = ap (starts_with (get_or ps f [])) i.1.1 ∙ R.prefix in
          let up : starts_with (get_or ps a []) p ≡ true = sym (ap (starts_with (get_or ps a [])) i.1.1) ∙ N.most i.0 i.1.0 (marked p R.listed i.0 i.1.0 i.1.1) pre in
          let x : length (get_or ps a []) ≤ length p = R.most (get_or ps a []) (is-root a N.listed N.marked) N.above in
          let y : length p ≤ length (get_or ps a []) = starts-length (get_or ps a []) p ha hp up in
          ap Some (equal-prefixes (get_or ps f []) p (get_or ps a []) hp ha R.prefix N.above (omega arith))
      go (Some p) None e N =
          let R = rooted b (get_or ps f []) p e in
          let i = M.listed p R.listed in
          absurd (N i.0 i.1.0 (marked p R.listed i.0 i.1.0 i.1.1) (ap (starts_with (get_or ps f [])) i.1.1 ∙ R.prefix))
      go None (Some a) e N = absurd (none-rooted b (get_or ps f []) e (get_or ps a []) (is-root a N.listed N.marked) N.above)
      go None None e N = refl

-- THE CARD
module _ {s : List ℕ} {c : Card} (C : CardOf s c) where
  abbrev b : Lists
  b = lists_in s

  abbrev nearest_to : ℕ → Option ℕ
  nearest_to f = nearest component_limit (parent_at c) (root_at c) f

  pub total : length (nodes_in s) ≡ suc (length b.folders + length b.files)
  total = ap suc (length-append b.folders b.files)

  pub folder-listed : (d : ℕ) → IsFolder s d → d < length (nodes_in s)
  folder-listed d h = omega (arith, total)

  pub node-small : (i : ℕ) → i < length (nodes_in s) → i < node_limit
  node-small i h = omega (arith, C.index.count)

  target-of : (rs : List Remapping) (p : Text) → Memᴰ p (map (λ (r : Remapping). r.target) rs) → (j : ℕ) × ((j < length rs) × ((get_or rs j no_remapping).target ≡ p))
  target-of [] p m = absurd (Memᴰ.not-nil m)
  target-of (r ∷ rs) p m = ⊎_elim (λ e. (0, (omega arith, sym e))) (λ n. let k = target-of rs p n in (suc k.0, (omega (arith, k.1.0), k.1.1))) (Memᴰ.cases_cons m)

  -- a root is a folder
  root_folder : (p : Text) → Memᴰ p (package_roots b) → (i : ℕ) × (IsFolder s i × (path_in s i ≡ p))
  root_folder p m =
      ⊎_elim (λ e. (_, (C.entry.folder, C.entry.path ∙ sym e)))
      (λ n. let k = target-of b.remappings p n in let t = C.targets k.0 no_remapping k.1.0 in (_, (t.folder, t.path ∙ k.1.1))) (Memᴰ.cases_cons m)

  roots-marked : Marked (nodes_in s) (package_roots b) (root_at c)
  roots-marked = record {
    of = C.marks;
    listed = λ p m. let r = root_folder p m in (r.0, (folder-listed r.0 r.1.0, r.1.1));
  }

  pub marked-folder : (a : ℕ) → a < length (nodes_in s) → root_at c a ≡ true → IsFolder s a
  marked-folder a h m =
      let r = root_folder (path_in s a) (member_true (path_in s a) (package_roots b) (sym (C.marks a h) ∙ m)) in
      let e = C.tree.once r.0 a (folder-listed r.0 r.1.0) h r.1.1 in
      omega (arith, r.1.0)

  -- as the code finds it
  module _ (f : ℕ) (listed : f < length (nodes_in s)) (x : Option ℕ) (is : x ≡ nearest_to f) where
    pub root_is : get_package_root b (path_in s f) ≡ option_map (path_in s) x
    root_is = root-nearest b C.tree (root_at c) roots-marked f listed ∙ ap (option_map (path_in s)) (sym is)

    pub root-is-folder : (a : ℕ) → x ≡ Some a → IsFolder s a
    root-is-folder a e =
        let N : Nearest C.tree (root_at c) f (Some a) = subst (Nearest C.tree (root_at c) f) (sym is ∙ e) (nearest-is C.tree (root_at c) f listed) in
        marked-folder a N.listed N.marked

    -- directly in the root
    pub directly : (a : ℕ) → (f ≡ 0 → ⊥) → x ≡ Some a → directly_in (path_in s f) (path_in s a) ≡ eqb (parent_at c f) a
    directly a z e = directly_is C.tree f a listed (folder-listed a (root-is-folder a e)) ∙ rw (ne_eqb f 0 z)

  -- 24: whether both have one root
  module _ (f t : ℕ) (f-listed : f < length (nodes_in s)) (t-listed : t < length (nodes_in s)) where
    abbrev Own : Bool → Type 0
    Own u = u ≡ check_local_file_imported_as_external b (path_in s f) (path_in s t)

    pub own-none : None ≡ nearest_to f → Own false
    unfolding check_local_file_imported_as_external
    own-none x = rw (root_is f f-listed None x)

    pub own-some : (a : ℕ) → Some a ≡ nearest_to f → (y : Option ℕ) → y ≡ nearest_to t → Own (option_eq eqb y (Some a))
    unfolding check_local_file_imported_as_external
    own-some a x y q = rw (root_is f f-listed (Some a) x, root_is t t-listed y q) (go y q)
      where
        at : (d : ℕ) → Some d ≡ nearest_to t → (w : Bool) → eqb d a ≡ w → w ≡ same (path_in s a) (path_in s d)
        at d q true k = rw (eqb-true d a k) (sym (same_refl (path_in s a)))
        at d q false k =
            sym (different (path_in s a) (path_in s d) (λ z. eqb-false d a k (sym (C.tree.once a d
            (folder-listed a (root-is-folder f f-listed (Some a) x a refl)) (folder-listed d (root-is-folder t t-listed (Some d) q d refl)) z))))

        go : (y : Option ℕ) → y ≡ nearest_to t → option_eq eqb y (Some a) ≡ same_root (Some (path_in s a)) (option_map (path_in s) y)
        go None q = refl
        go (Some d) q = at d q (eqb d a) refl

  -- WHAT IS FOUND, as an answer
  module _ (t : ℕ) (some : t ≡ 0 → ⊥) (listed : t < length (nodes_in s)) where
    itself : Hit (is_at (nodes_in s) (path_in s t)) (length (nodes_in s)) t
    itself = record { some = some; within = listed; holds = same_refl (path_in s t) }

    found-file : length b.folders < t → (member (path_in s t) b.files ≡ true) × (position (path_in s t) b.files ≡ t - 1 - length b.folders)
    found-file h =
        let k = in_files b.folders b.files (path_in s t) C.tree.once t itself h in
        let p = position-small (path_in s t) b.files k.listed in
        let q = C.tree.once (suc (length b.folders + position (path_in s t) b.files)) t (omega (arith, total)) listed (node-file b.folders b.files (position (path_in s t) b.files) ∙ position-is (path_in s t) b.files [] k.listed) in
        (k.listed, omega arith)

    found-folder : t ≤ length b.folders → (member (path_in s t) b.files ≡ false) × (position (path_in s t) b.folders ≡ t - 1)
    found-folder h =
        let k = in_folders b.folders b.files (path_in s t) C.tree.once t itself h in
        let p = position-small (path_in s t) b.folders k.listed in
        let q = C.tree.once (suc (position (path_in s t) b.folders)) t (omega (arith, total)) listed (node-folder b.folders b.files (position (path_in s t) b.folders) p ∙ position-is (path_in s t) b.folders [] k.listed) in
        (k.no_file, omega arith)

  pub resolved-is : (p : Text) (t left : ℕ) (rest : List Text) → Listed s p t → left ≡ length rest → resolved_at c.folders t left ≡ answer b (to p rest)
  resolved-is p t left rest L e = rw (C.folders, e, ← L.path) (go (ltb (length b.folders) t) refl)
    where
      go : (u : Bool) → ltb (length b.folders) t ≡ u → cond u (File (t - 1 - length b.folders) (length rest)) (Folder (t - 1) (length rest)) ≡ answer b (to (path_in s t) rest)
      go true q = let k = found-file t L.some L.listed (ltb-true _ _ q) in rw (k.0, k.1)
      go false q = let k = found-folder t L.some L.listed (ltb-false _ _ q) in rw (k.0, k.1)
