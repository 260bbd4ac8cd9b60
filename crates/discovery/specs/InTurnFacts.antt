-- What holds after each turn of discovery of the units that were handled, in turn; and of lists that are breadth first. Assumes nothing.
use Prim.Native.Nat.{ℕ, zero, suc, ◌<◌, ◌≤◌}
use Rattle.std.proofs.Common.{arith, subst, ◌∙◌, take-append-drop, length-take, take-suc, take_all, take-take, ltb-true, ltb-false}
use Rattle.std.specs.Prelude.{◌≡◌, Bool, true, false, cond, ltb, get_or, take, drop}
use Rattle.std.proofs.Math.Path.{refl, sym, ap}
use Rattle.std.proofs.Math.Logic.{⊎_elim}
use mathlib.Core.List.Memᴰ
use mathlib.Core.List.{List, [], ◌∷◌, ◌++◌, map, append-nil, append_assoc, Memᴰ}
use Rattle.std.proofs.Math.ListN.{length, length-append}
use Rattle.std.proofs.lemmas.List.{take-append-le}
use Rattle.std.proofs.Math.Seq.{take-append_seam, append_snoc}
use Rattle.names.specs.Bytes.{member}
use Rattle.bundle.specs.Bundle.{Text, Bundle}
use Rattle.bundle.specs.ListLaws.{member-append}
use Rattle.discovery.specs.Discovery.{use_cache, Fault, Import, lookup_faults, valid_imports, Loading, load, load_all, Graph, current, handled, turn, turns, entry_of, start, paths_of, discover_dependencies}
use Rattle.discovery.specs.Reached.{Reached, entry, imported, Once, readable, firsts, imports_of}
use Rattle.discovery.specs.InTurn.{imports_in_turn, BreadthFirst, unread, unread_of, unread_in_turn, paths_in, first_of_path, readings_of, readings_in_turn, reading_fault, faults_of_file, faults_in_turn}
use Rattle.discovery.specs.Facts.{cond_elim, member_true, mem_member, member_false, not-member, mem_snoc, pigeons, map-append, entry-file, firsts-append, firsts-sound, firsts-complete, firsts-once}
use Rattle.discovery.specs.Right.{discovered, imports-complete}

-- EACH ONCE, OF LISTS OF PATHS AND OF IMPORTS
module _ (seen : List Text) (p : Text) (l : List Text) where
  firsts_old : member p seen ≡ true → firsts seen (p ∷ l) ≡ firsts seen l
  unfolding firsts
  firsts_old e = rw e

  firsts-new : member p seen ≡ false → firsts seen (p ∷ l) ≡ p ∷ firsts (seen ++ (p ∷ [])) l
  unfolding firsts
  firsts-new e = rw e

module _ (seen : List Text) (i : Import) (l : List Import) where
  path_old : member i.path seen ≡ true → first_of_path seen (i ∷ l) ≡ first_of_path seen l
  unfolding first_of_path
  path_old e = rw e

  path-new : member i.path seen ≡ false → first_of_path seen (i ∷ l) ≡ i ∷ first_of_path (seen ++ (i.path ∷ [])) l
  unfolding first_of_path
  path-new e = rw e

-- first places among first places
firsts-firsts : (seen less l : List Text) → ((x : Text) → Memᴰ x less → Memᴰ x seen) → firsts seen (firsts less l) ≡ firsts seen l
unfolding firsts
firsts-firsts seen less [] h = refl
firsts-firsts seen less (p ∷ l) h =
    cond_elim (λ k. firsts seen k ≡ firsts seen (p ∷ l)) (member p less) {x = firsts less l} {y = p ∷ firsts (less ++ (p ∷ [])) l}
    (λ e. firsts-firsts seen less l h ∙ sym (firsts_old seen p l (mem_member (h p (member_true p less e)))))
    (λ e. go (member p seen) refl (λ g. firsts-firsts seen (less ++ (p ∷ [])) l g)
    (firsts-firsts (seen ++ (p ∷ [])) (less ++ (p ∷ [])) l
    (λ x m. ⊎_elim (λ w. Memᴰ.append_left _ (h x w)) (λ q. Memᴰ.append_right seen (Memᴰ.head q)) (mem_snoc less m))))
  where
    go : (t : Bool) → member p seen ≡ t
        → (((x : Text) → Memᴰ x (less ++ (p ∷ [])) → Memᴰ x seen) → firsts seen (firsts (less ++ (p ∷ [])) l) ≡ firsts seen l)
        → firsts (seen ++ (p ∷ [])) (firsts (less ++ (p ∷ [])) l) ≡ firsts (seen ++ (p ∷ [])) l
        → firsts seen (p ∷ firsts (less ++ (p ∷ [])) l) ≡ firsts seen (p ∷ l)
    go true e f g =
        firsts_old seen p (firsts (less ++ (p ∷ [])) l) e
        ∙ (f (λ x m. ⊎_elim (h x) (λ q. Memᴰ.cast q (member_true p seen e)) (mem_snoc less m)) ∙ sym (firsts_old seen p l e))
    go false e f g =
        firsts-new seen p (firsts (less ++ (p ∷ [])) l) e ∙ (ap (λ (k : List Text). p ∷ k) g ∙ sym (firsts-new seen p l e))

-- first places leave out only what was seen
firsts-member : (seen l : List Text) (p : Text) → member p (seen ++ firsts seen l) ≡ member p (seen ++ l)
firsts-member seen l p = go (member p (seen ++ l)) refl
  where
    by-seen : (t : Bool) → member p seen ≡ t → Memᴰ p l → Memᴰ p (seen ++ firsts seen l)
    by-seen true e m = Memᴰ.append_left _ (member_true p seen e)
    by-seen false e m = Memᴰ.append_right seen (firsts-complete seen l m (member_false e))

    go : (t : Bool) → member p (seen ++ l) ≡ t → member p (seen ++ firsts seen l) ≡ t
    go true e = mem_member (⊎_elim (λ m. Memᴰ.append_left _ m) (λ m. by-seen (member p seen) refl m) (Memᴰ.append_cases seen (member_true p (seen ++ l) e)))
    go false e = not-member p (seen ++ firsts seen l)
        (λ m. member_false e (⊎_elim (λ w. Memᴰ.append_left _ w) (λ w. Memᴰ.append_right seen (firsts-sound seen l w).0) (Memᴰ.append_cases seen m)))

-- only which paths were seen matters
path-same : (a c : List Text) (l : List Import) → ((p : Text) → member p a ≡ member p c) → first_of_path a l ≡ first_of_path c l
unfolding first_of_path
path-same a c [] h = refl
path-same a c (i ∷ l) h = rw (h i.path, path-same a c l h, path-same (a ++ (i.path ∷ [])) (c ++ (i.path ∷ [])) l (λ p. rw (member-append, member-append, h p)))

path-append : (seen : List Text) (a c : List Import) → first_of_path seen (a ++ c) ≡ first_of_path seen a ++ first_of_path (seen ++ paths_in (first_of_path seen a)) c
unfolding first_of_path
path-append seen [] c = rw append-nil
path-append seen (i ∷ a) c = go (member i.path seen) (path-append seen a c) (path-append (seen ++ (i.path ∷ [])) a c)
  where
    go : (t : Bool) → first_of_path seen (a ++ c) ≡ first_of_path seen a ++ first_of_path (seen ++ paths_in (first_of_path seen a)) c
        → first_of_path (seen ++ (i.path ∷ [])) (a ++ c) ≡ first_of_path (seen ++ (i.path ∷ [])) a ++ first_of_path ((seen ++ (i.path ∷ [])) ++ paths_in (first_of_path (seen ++ (i.path ∷ [])) a)) c
        → cond t (first_of_path seen (a ++ c)) (i ∷ first_of_path (seen ++ (i.path ∷ [])) (a ++ c))
        ≡ cond t (first_of_path seen a) (i ∷ first_of_path (seen ++ (i.path ∷ [])) a) ++ first_of_path (seen ++ paths_in (cond t (first_of_path seen a) (i ∷ first_of_path (seen ++ (i.path ∷ [])) a))) c
    go true e f = e
    go false e f = rw (f, append_snoc seen i.path (paths_in (first_of_path (seen ++ (i.path ∷ [])) a)))

-- the paths of first imports are first paths
pub path-firsts : (seen : List Text) (l : List Import) → paths_in (first_of_path seen l) ≡ firsts seen (paths_in l)
unfolding first_of_path firsts
path-firsts seen [] = refl
path-firsts seen (i ∷ l) = go (member i.path seen) (path-firsts seen l) (path-firsts (seen ++ (i.path ∷ [])) l)
  where
    go : (t : Bool) → paths_in (first_of_path seen l) ≡ firsts seen (paths_in l) → paths_in (first_of_path (seen ++ (i.path ∷ [])) l) ≡ firsts (seen ++ (i.path ∷ [])) (paths_in l)
        → paths_in (cond t (first_of_path seen l) (i ∷ first_of_path (seen ++ (i.path ∷ [])) l)) ≡ cond t (firsts seen (paths_in l)) (i.path ∷ firsts (seen ++ (i.path ∷ [])) (paths_in l))
    go true e f = e
    go false e f = rw f

-- LOADING
module _ (files : List Text) where
  module _ (i : Import) (l : List Import) where
    file-read : member i.path files ≡ true → (readable files (i ∷ l) ≡ i.path ∷ readable files l) × (unread files (i ∷ l) ≡ unread files l)
    unfolding readable unread
    file-read e = rw e (refl, refl)

    file-unread : member i.path files ≡ false → (readable files (i ∷ l) ≡ readable files l) × (unread files (i ∷ l) ≡ i ∷ unread files l)
    unfolding readable unread
    file-unread e = rw e (refl, refl)

  -- units are files, and what could not be read is none
  record Sorted (sources invalid : List Text) : Type 0 where
    known : (p : Text) → Memᴰ p sources → member p files ≡ true
    bad : (p : Text) → Memᴰ p invalid → member p files ≡ false

  -- what loading imports leaves: the new units, the paths that can't be read, and their faults
  record Loads (s s' : Loading) (is : List Import) : Type 0 where
    sorted : Sorted s'.sources s'.invalid
    sources : s'.sources ≡ s.sources ++ firsts s.sources (readable files is)
    invalid : s'.invalid ≡ s.invalid ++ paths_in (first_of_path s.invalid (unread files is))
    faults : s'.faults ≡ s.faults ++ map reading_fault (first_of_path s.invalid (unread files is))

  -- one import before those: of a path that could not be read, of a unit, of a new file, of a path that can't be read
  module _ (i : Import) (is : List Import) (s s' : Loading) where
    again : member i.path files ≡ false → member i.path s.invalid ≡ true → Loads s s' is → Loads s s' (i ∷ is)
    again q e h =
        let u = file-unread i is q in
        let o = path_old s.invalid i (unread files is) e in
        record { sorted = h.sorted; sources = rw u.0 h.sources; invalid = rw (u.1, o) h.invalid; faults = rw (u.1, o) h.faults }

    unit : member i.path files ≡ true → member i.path s.sources ≡ true → (list : List ℕ)
        → Loads (record { sources = s.sources; list = list; invalid = s.invalid; faults = s.faults }) s' is → Loads s s' (i ∷ is)
    unit q k list h =
        let u = file-read i is q in
        record {
          sorted = h.sorted;
          sources = rw (u.0, firsts_old s.sources i.path (readable files is) k) h.sources;
          invalid = rw u.1 h.invalid;
          faults = rw u.1 h.faults;
        }

    fresh : member i.path files ≡ true → member i.path s.sources ≡ false → (list : List ℕ)
        → Loads (record { sources = s.sources ++ (i.path ∷ []); list = list; invalid = s.invalid; faults = s.faults }) s' is → Loads s s' (i ∷ is)
    fresh q k list h =
        let u = file-read i is q in
        record {
          sorted = h.sorted;
          sources = h.sources ∙ (append_assoc s.sources (i.path ∷ []) _ ∙ ap (λ (l : List Text). s.sources ++ l) (sym (ap (firsts s.sources) u.0 ∙ firsts-new s.sources i.path (readable files is) k)));
          invalid = rw u.1 h.invalid;
          faults = rw u.1 h.faults;
        }

    failed : member i.path files ≡ false → member i.path s.invalid ≡ false
        → Loads (record { sources = s.sources; list = s.list; invalid = s.invalid ++ (i.path ∷ []); faults = s.faults ++ (reading_fault i ∷ []) }) s' is → Loads s s' (i ∷ is)
    failed q e h =
        let u = file-unread i is q in
        let o = ap (first_of_path s.invalid) u.1 ∙ path-new s.invalid i (unread files is) e in
        record {
          sorted = h.sorted;
          sources = rw u.0 h.sources;
          invalid = h.invalid ∙ (append_assoc s.invalid (i.path ∷ []) _ ∙ ap (λ (l : List Import). s.invalid ++ paths_in l) (sym o));
          faults = h.faults ∙ (append_assoc s.faults (reading_fault i ∷ []) _ ∙ ap (λ (l : List Import). s.faults ++ map reading_fault l) (sym o));
        }

  more-known : (sources : List Text) (p : Text) → member p files ≡ true → ((q : Text) → Memᴰ q sources → member q files ≡ true)
      → (q : Text) → Memᴰ q (sources ++ (p ∷ [])) → member q files ≡ true
  more-known sources p e h q m = ⊎_elim (h q) (λ x. ap (λ (y : Text). member y files) x ∙ e) (mem_snoc sources m)

  more-bad : (invalid : List Text) (p : Text) → member p files ≡ false → ((q : Text) → Memᴰ q invalid → member q files ≡ false)
      → (q : Text) → Memᴰ q (invalid ++ (p ∷ [])) → member q files ≡ false
  more-bad invalid p e h q m = ⊎_elim (h q) (λ x. ap (λ (y : Text). member y files) x ∙ e) (mem_snoc invalid m)

  loads : (is : List Import) (s : Loading) → Sorted s.sources s.invalid → Loads s (load_all files is s) is
  unfolding load_all load readable unread firsts first_of_path
  loads [] s o = record { sorted = o; sources = sym (append-nil s.sources); invalid = sym (append-nil s.invalid); faults = sym (append-nil s.faults) }
  loads (i ∷ is) s o =
      cond_elim (λ s'. Loads s (load_all files is s') (i ∷ is)) (member i.path s.invalid)
      (λ e. again i is s _ (o.bad i.path (member_true i.path s.invalid e)) e (loads is s o))
      (λ e. cond_elim (λ s'. Loads s (load_all files is s') (i ∷ is)) (member i.path s.sources)
      (λ k. unit i is s _ (o.known i.path (member_true i.path s.sources k)) k _ (loads is _ (record { known = o.known; bad = o.bad })))
      (λ k. cond_elim (λ s'. Loads s (load_all files is s') (i ∷ is)) (member i.path files)
      (λ q. fresh i is s _ q k _ (loads is _ (record { known = more-known s.sources i.path q o.known; bad = o.bad })))
      (λ q. failed i is s _ q e (loads is _ (record { known = o.known; bad = more-bad s.invalid i.path q o.bad })))))

-- FILES IN TURN
module _ (b : Bundle) where
  imports-append : (l k : List Text) → imports_in_turn b (l ++ k) ≡ imports_in_turn b l ++ imports_in_turn b k
  unfolding imports_in_turn
  imports-append [] k = refl
  imports-append (x ∷ l) k = rw (imports-append l k) (sym (append_assoc (imports_of b x) (imports_in_turn b l) (imports_in_turn b k)))

  imports_snoc : (l : List Text) (f : Text) → imports_in_turn b (l ++ (f ∷ [])) ≡ imports_in_turn b l ++ imports_of b f
  unfolding imports_in_turn
  imports_snoc l f = imports-append l (f ∷ []) ∙ ap (λ (k : List Text). imports_in_turn b l ++ k) (append-nil (imports_of b f))

  unread_snoc : (l : List Text) (f : Text) → unread_in_turn b (l ++ (f ∷ [])) ≡ unread_in_turn b l ++ unread_of b f
  unfolding unread_in_turn
  unread_snoc [] f = append-nil (unread_of b f)
  unread_snoc (x ∷ l) f = rw (unread_snoc l f) (sym (append_assoc (unread_of b x) (unread_in_turn b l) (unread_of b f)))

  faults_snoc : (before l : List Text) (f : Text) → faults_in_turn b before (l ++ (f ∷ [])) ≡ faults_in_turn b before l ++ faults_of_file b (before ++ l) f
  unfolding faults_in_turn
  faults_snoc before [] f = append-nil (faults_of_file b before f) ∙ ap (λ (l : List Text). faults_of_file b l f) (sym (append-nil before))
  faults_snoc before (x ∷ l) f =
      rw (faults_snoc (before ++ (x ∷ [])) l f, append_snoc before x l)
      (sym (append_assoc (faults_of_file b before x) (faults_in_turn b (before ++ (x ∷ [])) l) (faults_of_file b (before ++ (x ∷ l)) f)))

  -- one file more
  module _ (l : List Text) (f : Text) where
    abbrev found : List Text
    found = readable (paths_of b) (valid_imports (use_cache b f))

    more-sources : (sources : List Text) → sources ≡ firsts [] (entry_of (paths_of b) ++ imports_in_turn b l)
        → sources ++ firsts sources found ≡ firsts [] (entry_of (paths_of b) ++ imports_in_turn b (l ++ (f ∷ [])))
    unfolding imports_of
    more-sources sources e =
        ap (λ (k : List Text). sources ++ k) (sym (firsts-firsts sources [] found (λ x m. absurd (Memᴰ.not-nil m))))
        ∙ (ap (λ (k : List Text). k ++ firsts k (imports_of b f)) e
        ∙ (sym (firsts-append [] (entry_of (paths_of b) ++ imports_in_turn b l) (imports_of b f))
        ∙ ap (firsts []) (append_assoc (entry_of (paths_of b)) (imports_in_turn b l) (imports_of b f) ∙ ap (λ (k : List Text). entry_of (paths_of b) ++ k) (sym (imports_snoc l f)))))

    module _ (invalid : List Text) (e : invalid ≡ firsts [] (paths_in (unread_in_turn b l))) where
      more-invalid : invalid ++ paths_in (first_of_path invalid (unread_of b f)) ≡ firsts [] (paths_in (unread_in_turn b (l ++ (f ∷ []))))
      more-invalid =
          ap (λ (k : List Text). invalid ++ k) (path-firsts invalid (unread_of b f))
          ∙ (ap (λ (k : List Text). k ++ firsts k (paths_in (unread_of b f))) e
          ∙ (sym (firsts-append [] (paths_in (unread_in_turn b l)) (paths_in (unread_of b f)))
          ∙ (ap (firsts []) (sym (map-append (λ (i : Import). i.path) (unread_in_turn b l) (unread_of b f)))
          ∙ ap (λ (k : List Import). firsts [] (paths_in k)) (sym (unread_snoc l f)))))

      more-faults : (faults : List Fault) → faults ≡ faults_in_turn b [] l
          → (faults ++ lookup_faults (use_cache b f)) ++ map reading_fault (first_of_path invalid (unread_of b f)) ≡ faults_in_turn b [] (l ++ (f ∷ []))
      unfolding faults_of_file readings_of
      more-faults faults q =
          append_assoc faults (lookup_faults (use_cache b f)) (map reading_fault (first_of_path invalid (unread_of b f)))
          ∙ (ap (λ (k : List Import). faults ++ (lookup_faults (use_cache b f) ++ map reading_fault k))
          (path-same invalid (paths_in (unread_in_turn b l)) (unread_of b f) (λ p. ap (member p) e ∙ firsts-member [] (paths_in (unread_in_turn b l)) p))
          ∙ (ap (λ (k : List Fault). k ++ faults_of_file b l f) q ∙ sym (faults_snoc [] l f)))

  -- the units that were handled
  abbrev done : Graph → List Text
  done g = take (current g) g.sources

  -- what holds after each turn
  record Holds (g : Graph) : Type 0 where
    queue : current g ≤ length g.sources
    sorted : Sorted (paths_of b) g.sources g.invalid
    sources : g.sources ≡ firsts [] (entry_of (paths_of b) ++ imports_in_turn b (done g))
    invalid : g.invalid ≡ firsts [] (paths_in (unread_in_turn b (done g)))
    faults : g.faults ≡ faults_in_turn b [] (done g)

  module _ (g : Graph) (h : Holds g) (waits : current g < length g.sources) where
    abbrev file : Text
    file = get_or g.sources (current g) []

    abbrev before : Loading
    before = record { sources = g.sources; list = []; invalid = g.invalid; faults = g.faults ++ lookup_faults (use_cache b file) }

    abbrev new : List Text
    new = firsts g.sources (found [] file)

    module _ (s : Loading) (l : Loads (paths_of b) before s (valid_imports (use_cache b file))) where
      counted : length (g.dependencies ++ (s.list ∷ [])) ≡ suc (current g)
      counted = let e = length-append g.dependencies (s.list ∷ []) in omega arith

      one_more : done (handled g s) ≡ done g ++ (file ∷ [])
      one_more =
          ap (λ (n : ℕ). take n s.sources) counted
          ∙ (ap (take (suc (current g))) l.sources ∙ (take-append-le (suc (current g)) g.sources new waits ∙ take-suc g.sources (current g) [] waits))

      turned : Holds (handled g s)
      unfolding unread_of
      turned = record {
        queue = let c = counted in let n = ap length l.sources in omega (arith, length-append g.sources new);
        sorted = l.sorted;
        sources = l.sources ∙ (more-sources (done g) file g.sources h.sources ∙ ap (λ (k : List Text). firsts [] (entry_of (paths_of b) ++ imports_in_turn b k)) (sym one_more));
        invalid = l.invalid ∙ (more-invalid (done g) file g.invalid h.invalid ∙ ap (λ (k : List Text). firsts [] (paths_in (unread_in_turn b k))) (sym one_more));
        faults = l.faults ∙ (more-faults (done g) file g.invalid h.invalid g.faults h.faults ∙ ap (faults_in_turn b []) (sym one_more));
      }

    after_turn : Holds (turn (paths_of b) (use_cache b) g)
    unfolding turn
    after_turn = turned (load_all (paths_of b) (valid_imports (use_cache b file)) before) (loads (paths_of b) (valid_imports (use_cache b file)) before h.sorted)

  after-turns : (k : ℕ) (g : Graph) → Holds g → Holds (turns k (paths_of b) (use_cache b) g)
  unfolding turns
  after-turns zero g h = h
  after-turns (suc k) g h =
      cond_elim Holds (ltb (current g) (length g.sources))
      (λ e. after-turns k (turn (paths_of b) (use_cache b) g) (after_turn g h (ltb-true (current g) (length g.sources) e))) (λ e. h)

  at-start : Holds (start (paths_of b))
  unfolding imports_in_turn unread_in_turn faults_in_turn firsts member
  at-start = record {
    queue = omega arith;
    sorted = record { known = λ p m. mem_member (entry-file (paths_of b) p m); bad = λ p m. absurd (Memᴰ.not-nil m) };
    sources = entry-once (paths_of b);
    invalid = refl;
    faults = refl;
  }
    where
      entry-once : (fs : List Text) → entry_of fs ≡ firsts [] (entry_of fs ++ [])
      entry-once [] = refl
      entry-once (p ∷ fs) = refl

  at-end : Holds (discover_dependencies b)
  unfolding discover_dependencies
  at-end = after-turns (length b.files) (start (paths_of b)) at-start

  all_done : done (discover_dependencies b) ≡ (discover_dependencies b).sources
  all_done = let e = (discovered b).handled_all in take_all (current (discover_dependencies b)) (discover_dependencies b).sources (omega arith)

  -- THE GRAPH
  pub sources_in_turn : (discover_dependencies b).sources ≡ firsts [] (entry_of (paths_of b) ++ imports_in_turn b (discover_dependencies b).sources)
  sources_in_turn = at-end.sources ∙ ap (λ (l : List Text). firsts [] (entry_of (paths_of b) ++ imports_in_turn b l)) all_done

  pub faults-of-units : (discover_dependencies b).faults ≡ faults_in_turn b [] (discover_dependencies b).sources
  faults-of-units = at-end.faults ∙ ap (faults_in_turn b []) all_done

  -- LISTS THAT ARE BREADTH FIRST
  -- what the first files of such a list give
  abbrev given : List Text → List Text
  given l = firsts [] (entry_of (paths_of b) ++ imports_in_turn b l)

  imports-of-one : {l : List Text} {f p : Text} → Memᴰ f l → Memᴰ p (imports_of b f) → Memᴰ p (imports_in_turn b l)
  unfolding imports_in_turn
  imports-of-one {l = []} m w = absurd (Memᴰ.not-nil m)
  imports-of-one {l = x ∷ l} {f} {p} m w =
      ⊎_elim (λ e. Memᴰ.append_left _ (subst (λ (y : Text). Memᴰ p (imports_of b y)) e w))
      (λ v. Memᴰ.append_right (imports_of b x) (imports-of-one v w)) (Memᴰ.cases_cons m)

  module _ (l : List Text) (h : BreadthFirst b l) (n : ℕ) where
    abbrev rest : List Text
    rest = firsts (given (take n l)) (imports_in_turn b (drop n l))

    begins : l ≡ given (take n l) ++ rest
    begins =
        h.in_turn
        ∙ (ap (λ (k : List Text). firsts [] (entry_of (paths_of b) ++ imports_in_turn b k)) (sym (take-append-drop n l))
        ∙ (ap (λ (k : List Text). firsts [] (entry_of (paths_of b) ++ k)) (imports-append (take n l) (drop n l))
        ∙ (ap (firsts []) (sym (append_assoc (entry_of (paths_of b)) (imports_in_turn b (take n l)) (imports_in_turn b (drop n l))))
        ∙ firsts-append [] (entry_of (paths_of b) ++ imports_in_turn b (take n l)) (imports_in_turn b (drop n l)))))

    -- if they give no more than themselves, they are all
    module _ (le : length (given (take n l)) ≤ n) where
      front : given (take n l) ++ drop (length (given (take n l))) (take n l) ≡ take n l
      front =
          ap (λ (k : List Text). k ++ drop (length (given (take n l))) (take n l))
          (sym (take-take (length (given (take n l))) n l le ∙ (ap (take (length (given (take n l)))) begins ∙ take-append_seam (given (take n l)) rest)))
          ∙ take-append-drop (length (given (take n l))) (take n l)

      among : {p : Text} → Memᴰ p (entry_of (paths_of b) ++ imports_in_turn b (take n l)) → Memᴰ p (take n l)
      among {p} m = subst (λ (k : List Text). Memᴰ p k) front (Memᴰ.append_left _ (firsts-complete [] (entry_of (paths_of b) ++ imports_in_turn b (take n l)) m Memᴰ.not-nil))

      all-reached : (p : Text) → Reached b p → Memᴰ p (take n l)
      all-reached p (entry q) = among (Memᴰ.append_left _ (subst (λ (fs : List Text). Memᴰ p (entry_of fs)) (sym q) (Memᴰ.head refl)))
      all-reached p (imported {f} r i) = among (Memᴰ.append_right (entry_of (paths_of b)) (imports-of-one (all-reached f r) (imports-complete b i)))

      no_more : length l ≤ n
      no_more =
          let once : Once l = subst Once (sym h.in_turn) (firsts-once [] (entry_of (paths_of b) ++ imports_in_turn b l)) in
          let k = pigeons once (take n l) (λ p m. all-reached p (h.reached p m)) in
          omega (arith, length-take n l)

  -- two of them are the same
  pub same-front : (l k : List Text) → BreadthFirst b l → BreadthFirst b k → (n : ℕ) → take n l ≡ take n k
  same-front l k x y zero = refl
  same-front l k x y (suc n) = go (same-front l k x y n) (ltb n (length (given (take n l)))) refl
    where
      go : take n l ≡ take n k → (t : Bool) → ltb n (length (given (take n l))) ≡ t → take (suc n) l ≡ take (suc n) k
      go z true e =
          let a : n < length (given (take n l)) = ltb-true n (length (given (take n l))) e in
          let c : n < length (given (take n k)) = subst (λ (j : List Text). n < length (given j)) z a in
          (ap (take (suc n)) (begins l x n) ∙ take-append-le (suc n) (given (take n l)) (rest l x n) a)
          ∙ (ap (λ (j : List Text). take (suc n) (given j)) z ∙ sym (ap (take (suc n)) (begins k y n) ∙ take-append-le (suc n) (given (take n k)) (rest k y n) c))
      go z false e =
          let a : length (given (take n l)) ≤ n = ltb-false n (length (given (take n l))) e in
          let c : length (given (take n k)) ≤ n = subst (λ (j : List Text). length (given j) ≤ n) z a in
          let u = no_more l x n a in
          let v = no_more k y n c in
          (take_all (suc n) l (omega arith) ∙ sym (take_all n l u)) ∙ (z ∙ (take_all n k v ∙ sym (take_all (suc n) k (omega arith))))

  -- READINGS
  pub readings_after : (before l : List Text) → readings_in_turn b before l ≡ first_of_path (paths_in (unread_in_turn b before)) (unread_in_turn b l)
  unfolding readings_in_turn unread_in_turn readings_of first_of_path
  readings_after before [] = refl
  readings_after before (f ∷ l) =
      let seen = paths_in (unread_in_turn b before) in
      ap (λ (k : List Import). readings_of b before f ++ k)
      (readings_after (before ++ (f ∷ [])) l
      ∙ path-same (paths_in (unread_in_turn b (before ++ (f ∷ [])))) (seen ++ paths_in (first_of_path seen (unread_of b f))) (unread_in_turn b l)
      (λ p. ap (λ (k : List Import). member p (paths_in k)) (unread_snoc before f)
      ∙ (ap (member p) (map-append (λ (i : Import). i.path) (unread_in_turn b before) (unread_of b f))
      ∙ (sym (firsts-member seen (paths_in (unread_of b f)) p) ∙ ap (λ (k : List Text). member p (seen ++ k)) (sym (path-firsts seen (unread_of b f)))))))
      ∙ sym (path-append seen (unread_of b f) (unread_in_turn b l))
