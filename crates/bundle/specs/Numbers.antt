-- A refusal's number and place: the scan tells 1 to 6 within its container, at its end only for 1; the conflicts are 7 to 13.
-- Assumes nothing.
use Prim.Native.Nat.{ℕ, zero, suc, ◌+◌, ◌-◌, ◌≤◌, ◌<◌}
use Rattle.std.proofs.Common.{arith}
use Rattle.std.specs.Prelude.{Bool, true, false, cond, ◌&&◌, not, ◌≡◌, List, [], ◌∷◌, ◌++◌, ltb, length}
use Rattle.std.proofs.Math.Path.{refl}
use Rattle.std.proofs.Math.Dec.{eqb, leb}
use borrow.Author.Tests.{ltb-true, ltb-false, leb-true}
use Rattle.names.specs.Bytes.{member, and_left}
use Rattle.names.specs.Path.{is_path}
use Rattle.names.specs.Prefix.{directly_in}
use Rattle.names.specs.Identifier.{is_identifier}
use Rattle.names.specs.Keywords.{is_crate, is_keyword}
use Rattle.bundle.specs.Bundle.{Text}
use Rattle.bundle.specs.Limits.{defined, header, folder_width, file_width, most_folders, remapping_limit, most_files, item_limit, most_uses, depth_limit, segment_limit, element_limit, use_kind, module_kind, ignored_kind}
use Rattle.bundle.specs.Scan.{byte, word, text, version_of, count, past_count, and_then, times, scan_string, scan_formed, scan_path, scan_name, scan_alias, scan_field, scan_count, scan_list, scan_use, scan_length, scan_mark, uses_after, scan_head, scan_body, scan_end, walk_on, walk_then, scan_item_with, siblings, scan_module, scan_item, scan_file, scan_files, scan_header}
use Rattle.bundle.specs.Conflicts.{Placed, PlacedRemapping, or_else, any, listed, located, same_remapping, remapped, conflicts}
use Rattle.bundle.specs.Conflicts.{named as name_told}
use Rattle.bundle.specs.Read.{after_walk, files, lists, form, verdict}
use Rattle.bundle.specs.Read.{after as then_ok}
use Rattle.bundle.specs.Steps.{some_bytes, string-next, length-next, mark-next, head-next}
use Rattle.bundle.specs.Answers.{cond_elim}
use Rattle.bundle.specs.declared.Width.{Width}
use Rattle.bundle.specs.declared.Width.TheVariants.{Byte}
use Rattle.bundle.specs.Results.{Scan}
use Rattle.bundle.specs.Results.{Next, Bad}
use Rattle.bundle.specs.Results.{Walk}
use Rattle.bundle.specs.Results.{Past, Fault}
use Rattle.bundle.specs.declared.Field.{Field}
use Rattle.bundle.specs.declared.Field.TheVariants.{Path, Name, Element, Remapping}
use Rattle.bundle.specs.Results.{Checked}
use Rattle.bundle.specs.Results.{Ok, Refused}

-- THE SCAN
-- a number from 1 to 6, and a place before the end, or for 1 at the end
pub record ToldWithin (end n p : ℕ) : Type 0 where
  pub least : 1 ≤ n
  pub most : n ≤ 6
  pub within : p ≤ end
  pub inside : (n ≡ 1 → ⊥) → p < end
  pub spared : n ≡ 2 → ⊥

abbrev Right : ℕ → Scan → Type 0
Right end (Next at) = at ≤ end
Right end (Bad n p) = ToldWithin end n p

abbrev RightWalk : ℕ → Walk → Type 0
RightWalk end (Past at c u) = at ≤ end
RightWalk end (Fault n p) = ToldWithin end n p

-- the header is there, and its version is not defined
pub record Undefined (s : List ℕ) (p : ℕ) : Type 0 where
  pub headed : header ≤ length s
  pub undefined : defined (version_of s) ≡ false
  pub first : p ≡ 0

pub record ToldForm (s : List ℕ) (n p : ℕ) : Type 0 where
  pub least : 1 ≤ n
  pub most : n ≤ 6
  pub within : p ≤ length s
  pub inside : (n ≡ 1 → ⊥) → p < length s
  -- 2 only for a version that is not defined
  pub version : n ≡ 2 → Undefined s p

abbrev pub RightForm : List ℕ → Checked → Type 0
RightForm s Ok = Unit {0}
RightForm s (Refused n p) = ToldForm s n p

told-form : (s : List ℕ) (n p : ℕ) → ToldWithin (length s) n p → ToldForm s n p
told-form s n p t = record { least = t.least; most = t.most; within = t.within; inside = t.inside; version = λ e. absurd (t.spared e) }

cut : (end p : ℕ) → p ≤ end → ToldWithin end 1 p
cut end p h = record { least = omega arith; most = omega arith; within = h; inside = λ f. absurd (f refl); spared = λ (e : ◌≡◌ {A = ℕ} 1 2). omega arith }

tells : (end n p : ℕ) → 2 < n → n ≤ 6 → p < end → ToldWithin end n p
tells end n p l m h = record { least = omega arith; most = m; within = omega arith; inside = λ f. h; spared = λ (e : n ≡ 2). omega arith }

told_more : (end last n p : ℕ) → end ≤ last → ToldWithin end n p → ToldWithin last n p
told_more end last n p h t =
    let w = t.within in
    record { least = t.least; most = t.most; within = omega arith; inside = λ f. let i = t.inside f in omega arith; spared = t.spared }

walk_more : (end last : ℕ) (X : Walk) → end ≤ last → RightWalk end X → RightWalk last X
walk_more end last (Past at c u) h p = omega arith
walk_more end last (Fault n m) h t = told_more end last n m h t

then-right : {end : ℕ} (X : Scan) (f : ℕ → Scan) → Right end X → ((a : ℕ) → X ≡ Next a → a ≤ end → Right end (f a)) → Right end (and_then X f)
then-right (Next a) f p q = q a refl p
then-right (Bad n m) f p q = p

on-right : {end : ℕ} (X : Scan) (f : ℕ → Walk) → Right end X → ((a : ℕ) → X ≡ Next a → a ≤ end → RightWalk end (f a)) → RightWalk end (walk_on X f)
on-right (Next a) f p q = q a refl p
on-right (Bad n m) f p q = p

walk-right : {end : ℕ} (X : Walk) (f : ℕ → ℕ → ℕ → Walk) → RightWalk end X → ((a c u : ℕ) → a ≤ end → RightWalk end (f a c u)) → RightWalk end (walk_then X f)
walk-right (Past a c u) f p q = q a c u p
walk-right (Fault n m) f p q = p

check_right : (s : List ℕ) (X : Scan) (f : ℕ → Checked) → Right (length s) X → ((a : ℕ) → a ≤ length s → RightForm s (f a)) → RightForm s (then_ok X f)
check_right s (Next a) f p q = q a p
check_right s (Bad n m) f p q = told-form s n m p

checked-walk : (s : List ℕ) (X : Walk) (f : ℕ → Checked) → RightWalk (length s) X → ((a : ℕ) → a ≤ length s → RightForm s (f a)) → RightForm s (after_walk X f)
checked-walk s (Past a c u) f p q = q a p
checked-walk s (Fault n m) f p q = told-form s n m p

module _ (s : List ℕ) where
  string-right : (end at : ℕ) → at ≤ end → Right end (scan_string s end at)
  unfolding scan_string
  string-right end at h =
      cond_elim (Right end) (ltb at end)
      (λ b. let lt = ltb-true at end b in
      cond_elim (Right end) (leb (byte s at) (end - (at + 1))) (λ c. let le = leb-true (byte s at) (end - (at + 1)) c in omega arith) (λ c. cut end at h))
      (λ b. cut end at h)

  formed-right : (form : List ℕ → Bool) (k : ℕ) → 2 < k → k ≤ 6 → (end at : ℕ) → at ≤ end → Right end (scan_formed form k s end at)
  unfolding scan_formed
  formed-right form k l m end at h =
      then-right (scan_string s end at) _ (string-right end at h) (λ next e b.
      let z = string-next s end at e in
      cond_elim (Right end) (form (text s at)) (λ c. b) (λ c. tells end k at l m z.0))

  name-right : (end at : ℕ) → at ≤ end → Right end (scan_name s end at)
  name-right end at h = formed-right is_identifier 5 (omega arith) (omega arith) end at h

  path-right : (end at : ℕ) → at ≤ end → Right end (scan_path s end at)
  path-right end at h = formed-right is_path 4 (omega arith) (omega arith) end at h

  alias-right : (end at : ℕ) → at ≤ end → Right end (scan_alias s end at)
  unfolding scan_alias
  alias-right end at h =
      cond_elim (Right end) (ltb at end && eqb (byte s at) 0) (λ c. let lt = ltb-true at end (and_left (ltb at end) (eqb (byte s at) 0) c) in omega arith) (λ c. name-right end at h)

  field_right : (field : Field) (end at : ℕ) → at ≤ end → Right end (scan_field field s end at)
  unfolding scan_field
  field_right Path end at h = path-right end at h
  field_right Name end at h = name-right end at h
  field_right Element end at h = then-right (scan_name s end at) _ (name-right end at h) (λ a e b. alias-right end a b)
  field_right Remapping end at h =
      then-right (scan_path s end at) _ (path-right end at h) (λ a e b. then-right (scan_string s end a) _ (string-right end a b) (λ c e' d. path-right end c d))

  times-right : (f : ℕ → Scan) (end : ℕ) → ((a : ℕ) → a ≤ end → Right end (f a)) → (n at : ℕ) → at ≤ end → Right end (times n f at)
  unfolding times
  times-right f end p zero at h = h
  times-right f end p (suc n) at h = then-right (f at) _ (p at h) (λ a e b. times-right f end p n a b)

  count-right : (w : Width) (low high end at : ℕ) → at ≤ end → Right end (scan_count w low high s end at)
  unfolding scan_count
  count-right w low high end at h =
      cond_elim (Right end) (leb (past_count w at) end)
      (λ b. let le = leb-true (past_count w at) end b in
      let some = some_bytes w in
      cond_elim (Right end) (leb low (count w s at) && leb (count w s at) high) (λ c. le) (λ c. tells end 3 at (omega arith) (omega arith) (omega arith)))
      (λ b. cut end at h)

  list_right : (w : Width) (field : Field) (limit end at : ℕ) → at ≤ end → Right end (scan_list w field limit s end at)
  unfolding scan_list
  list_right w field limit end at h =
      then-right (scan_count w 0 limit s end at) _ (count-right w 0 limit end at h) (λ a e b. times-right (scan_field field s end) end (field_right field end) (count w s at) a b)

  length-right : (end at : ℕ) → at ≤ end → Right end (scan_length s end at)
  unfolding scan_length
  length-right end at h =
      cond_elim (Right end) (leb (at + 2) end)
      (λ b. let l = leb-true (at + 2) end b in
      cond_elim (Right end) (leb (word s at) (end - (at + 2))) (λ c. let le = leb-true (word s at) (end - (at + 2)) c in omega arith) (λ c. cut end at h))
      (λ b. cut end at h)

  mark-right : (low high end at : ℕ) → at ≤ end → Right end (scan_mark low high s end at)
  unfolding scan_mark
  mark-right low high end at h =
      cond_elim (Right end) (ltb at end)
      (λ b. let lt = ltb-true at end b in
      cond_elim (Right end) (leb low (byte s at) && leb (byte s at) high) (λ c. omega arith) (λ c. tells end 6 at (omega arith) (omega arith) lt))
      (λ b. cut end at h)

  end-right : (end at : ℕ) → at ≤ end → Right end (scan_end end at)
  unfolding scan_end
  end-right end at h = cond_elim (Right end) (eqb at end) (λ c. h) (λ c. cut end at h)

  -- an item's length, kind and visibility end by its end, the end by its container's
  right-more : (end last : ℕ) (X : Scan) → end ≤ last → Right end X → Right last X
  right-more end last (Next a) h p = omega arith
  right-more end last (Bad n m) h t = told_more end last n m h t

  head-right : (end at c u : ℕ) → at ≤ end → Right end (scan_head s end at c u)
  unfolding scan_head
  head-right end at c u h =
      then-right (scan_length s end at) _ (length-right end at h) (λ next e b.
      let l = length-next s end at e in
      then-right (scan_mark 1 6 s next (at + 2)) _ (right-more next end (scan_mark 1 6 s next (at + 2)) b (mark-right 1 6 next (at + 2) (omega arith))) (λ v e' d.
      let m = mark-next s next (at + 2) 1 6 e' in
      then-right (scan_mark 0 1 s next v) _ (right-more next end (scan_mark 0 1 s next v) b (mark-right 0 1 next v m.1)) (λ w e'' f.
      cond_elim (Right end) (ltb c item_limit && leb (uses_after s at u) (most_uses (version_of s))) (λ t. b) (λ t. tells end 3 at (omega arith) (omega arith) (omega arith)))))

  body-right : (end at : ℕ) → at + 4 ≤ end → Right end (scan_body s end at)
  unfolding scan_body scan_use
  body-right end at h =
      cond_elim (Right end) (eqb (byte s (at + 2)) ignored_kind) (λ c. h) (λ c.
      cond_elim (Right end) (eqb (byte s (at + 2)) use_kind)
      (λ c. then-right (scan_list Byte Name segment_limit s end (at + 4)) _ (list_right Byte Name segment_limit end (at + 4) h) (λ a e b. list_right Byte Element element_limit end a b))
      (λ c. name-right end (at + 4) h))

  leaf_right : (next at c u : ℕ) → at + 4 ≤ next → RightWalk next (walk_on (and_then (scan_body s next at) (scan_end next)) (λ past. Past past (c + 1) (uses_after s at u)))
  leaf_right next at c u h =
      on-right (and_then (scan_body s next at) (scan_end next)) _ (then-right (scan_body s next at) _ (body-right next at h) (λ a e b. end-right next a b)) (λ past e b. b)

  item-right : (M : ℕ → ℕ → ℕ → ℕ → Walk) → ((next at c u : ℕ) → at + 4 ≤ next → RightWalk next (M next at c u)) → (end at c u : ℕ) → at ≤ end → RightWalk end (scan_item_with M s end at c u)
  unfolding scan_item_with
  item-right M p end at c u h =
      on-right (scan_head s end at c u) _ (head-right end at c u h) (λ next e b.
      let k = (head-next s end at c u e).long in
      cond_elim (RightWalk end) (eqb (byte s (at + 2)) module_kind)
      (λ t. walk_more next end (M next at c u) b (p next at c u k))
      (λ t. walk_more next end (walk_on (and_then (scan_body s next at) (scan_end next)) (λ past. Past past (c + 1) (uses_after s at u))) b (leaf_right next at c u k)))

  siblings-right : (one : ℕ → ℕ → ℕ → Walk) (end : ℕ) → ((at c u : ℕ) → at ≤ end → RightWalk end (one at c u)) → (k at c u : ℕ) → at ≤ end → RightWalk end (siblings k one end at c u)
  unfolding siblings
  siblings-right one end p zero at c u h = h
  siblings-right one end p (suc k) at c u h =
      cond_elim (RightWalk end) (ltb at end) (λ t. walk-right (one at c u) _ (p at c u h) (siblings-right one end p k)) (λ t. h)

  module_right : (depth next at c u : ℕ) → at + 4 ≤ next → RightWalk next (scan_module depth s next at c u)
  unfolding scan_module
  module_right zero next at c u h = tells next 3 at (omega arith) (omega arith) (omega arith)
  module_right (suc depth) next at c u h =
      on-right (scan_name s next (at + 4)) _ (name-right next (at + 4) h) (λ inner e b.
      siblings-right (scan_item depth s next) next (item-right (scan_module depth s) (module_right depth) next) (next - inner) inner (c + 1) u b)

  items-right : (end at c u : ℕ) → at ≤ end → RightWalk end (siblings (end - at) (scan_item depth_limit s end) end at c u)
  items-right end at c u h = siblings-right (scan_item depth_limit s end) end (item-right (scan_module depth_limit s) (module_right depth_limit) end) (end - at) at c u h

  file-right : (end at c u : ℕ) → at ≤ end → RightWalk end (scan_file s end at c u)
  unfolding scan_file
  file-right end at c u h =
      on-right (scan_path s end at) _ (path-right end at h) (λ l e b.
      on-right (scan_length s end l) _ (length-right end l b) (λ next e' d.
      let z = length-next s end l e' in
      walk_more next end (siblings (next - (l + 2)) (scan_item depth_limit s next) next (l + 2) c u) d (items-right next (l + 2) c u (omega arith))))

  files-right : (n end at c u : ℕ) → at ≤ end → RightWalk end (scan_files n s end at c u)
  unfolding scan_files
  files-right zero end at c u h = h
  files-right (suc n) end at c u h = walk-right (scan_file s end at c u) _ (file-right end at c u h) (files-right n end)

  header-right : (f : ℕ → Checked) → ((a : ℕ) → a ≤ length s → RightForm s (f a)) → RightForm s (then_ok (scan_header s) f)
  unfolding scan_header
  header-right f q =
      cond_elim P (ltb (length s) header) (λ a. told-form s 1 0 (cut (length s) 0 (omega arith))) (λ a.
      let l = ltb-false (length s) header a in
      cond_elim P (defined (version_of s))
      (λ b. cond_elim P (ltb (length s - header) (word s 1)) (λ c. told-form s 1 1 (cut (length s) 1 (omega arith))) (λ c.
      cond_elim P (ltb (word s 1) (length s - header)) (λ d. let w = ltb-true (word s 1) (length s - header) d in told-form s 1 (header + word s 1) (cut (length s) (header + word s 1) (omega arith))) (λ d. q header l)))
      (λ b. record { least = omega arith; most = omega arith; within = omega arith; inside = λ g. omega arith; version = λ e. record { headed = l; undefined = b; first = refl } }))
    where
      P : Scan → Type 0
      P X = RightForm s (then_ok X f)

  pub form-right : RightForm s (form s)
  unfolding form lists files
  form-right =
      let v = version_of s in
      header-right _ (λ root h0.
      check_right s (scan_path s (length s) root) _ (path-right (length s) root h0) (λ f h1.
      check_right s (scan_list (folder_width v) Path (most_folders v) s (length s) f) _ (list_right (folder_width v) Path (most_folders v) (length s) f h1) (λ r h2.
      check_right s (scan_list Byte Remapping remapping_limit s (length s) r) _ (list_right Byte Remapping remapping_limit (length s) r h2) (λ g h3.
      check_right s (scan_count (file_width v) 1 (most_files v) s (length s) g) _ (count-right (file_width v) 1 (most_files v) (length s) g h3) (λ a h4.
      checked-walk s (scan_files (count (file_width v) s g) s (length s) a 0 0) _ (files-right (count (file_width v) s g) (length s) a 0 0 h4) (λ last h5.
      check_right s (scan_end (length s) last) _ (end-right (length s) last h5) (λ _ h6. tt)))))))

-- THE CONFLICTS
abbrev pub Late : Checked → Type 0
Late Ok = Unit {0}
Late (Refused n p) = (7 ≤ n) × (n ≤ 13)

pick : (P : Checked → Type 0) (b : Bool) {x y : Checked} → P x → P y → P (cond b x y)
pick P true p q = p
pick P false p q = q

or_right : (a b : Checked) → Late a → Late b → Late (or_else a b)
or_right Ok b p q = q
or_right (Refused n m) b p q = p

listed-right : (seen F : List Text) (ps : List Placed) → Late (listed seen F ps)
unfolding listed
listed-right seen F [] = tt
listed-right seen F (p ∷ ps) =
    pick Late (member p.string seen) (omega arith) (pick Late (any (directly_in p.string) F) (listed-right (seen ++ (p.string ∷ [])) F ps) (omega arith))

located-right : (F G : List Text) (p : Placed) → Late (located F G p)
unfolding located
located-right F G p = pick Late (member p.string F) tt (pick Late (member p.string G) (omega arith) (omega arith))

name-told-right : (p : Placed) → Late (name_told p)
unfolding name_told
name-told-right p = pick Late (is_crate p.string) (omega arith) (pick Late (is_identifier p.string && not (is_keyword p.string)) tt (omega arith))

remapped-right : (F G : List Text) (seen l : List PlacedRemapping) → Late (remapped F G seen l)
unfolding remapped
remapped-right F G seen [] = tt
remapped-right F G seen (r ∷ l) =
    or_right (located F G r.context) _ (located-right F G r.context)
    (or_right (located F G r.target) _ (located-right F G r.target)
    (or_right (name_told r.name) _ (name-told-right r.name)
    (pick Late (any (same_remapping r) seen) (omega arith) (remapped-right F G (seen ++ (r ∷ [])) l))))

pub conflicts-right : (s : List ℕ) → Late (conflicts s)
unfolding conflicts
conflicts-right s = or_right (listed _ _ _) _ (listed-right _ _ _) (or_right (remapped _ _ _ _) _ (remapped-right _ _ _ _) (located-right _ _ _))

-- BOTH
abbrev One : Checked → Type 0
One Ok = Unit {0}
One (Refused n p) = (1 ≤ n) × (n ≤ 13)

pub numbers : (s : List ℕ) (n p : ℕ) → verdict s ≡ Refused n p → (1 ≤ n) × (n ≤ 13)
unfolding verdict
numbers s n p e = rw e at (go (form s) (conflicts s) (form-right s) (conflicts-right s))
  where
    go : (a b : Checked) → RightForm s a → Late b → One (or_else a b)
    go Ok Ok p q = tt
    go Ok (Refused n m) p q = let x = q.0 in (omega arith, q.1)
    go (Refused n m) b p q = let x = p.most in (p.least, omega arith)
