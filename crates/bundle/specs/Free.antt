-- The tests 7 to 13 find nothing just where the value has no conflict. Assumes nothing.
use Rattle.std.specs.Prelude.{ℕ, zero, suc, Bool, true, false, cond, ◌&&◌, not, ◌≡◌, refl, List, [], ◌∷◌, ◌++◌, map}
use Rattle.std.proofs.Common.{arith, sym, ap, ◌∙◌}
use Rattle.names.specs.Bytes.{member}
use Rattle.names.specs.Path.{root}
use Rattle.names.specs.Prefix.{directly_in}
use Rattle.names.specs.Identifier.{is_identifier}
use Rattle.names.specs.Keywords.{is_crate, is_keyword}
use Rattle.bundle.specs.Bundle.{Text, Remapping, File, with_slash}
use Rattle.bundle.specs.Scan.{text}
use Rattle.bundle.specs.Decode.{each, after, after_remapping, after_file, remapping_at, file_at, decode, folder_count, folder_first, remapping_count, remapping_first, file_count, file_first}
use Rattle.bundle.specs.Conflicts.{Placed, PlacedRemapping, placed_at, placed_remapping_at, texts, or_else, any, listed, located, same_remapping, remapped, conflicts}
use Rattle.bundle.specs.Conflicts.{named as name_told}
use Rattle.bundle.specs.ListLaws.{texts-each}
use Rattle.bundle.specs.Steps.{both}
use Rattle.bundle.specs.Form.{fresh, usable, alike, usable_all, Unconflicted}
use Rattle.bundle.specs.Results.{Checked}
use Rattle.bundle.specs.Results.{Ok, Refused}

-- whether nothing is told
unfoldable ok : Checked → Bool
ok Ok = true
ok (Refused n p) = false

ok_or : (a b : Checked) → ok (or_else a b) ≡ (ok a && ok b)
unfolding ok
ok_or Ok b = refl
ok_or (Refused n p) b = refl

ok-is : (a : Checked) → ok a ≡ true → a ≡ Ok
unfolding ok
ok-is Ok h = refl
ok-is (Refused n p) h = absurd (no h)
  where
    no : ◌≡◌ {A = Bool} false true → ⊥
    no e = let z : ◌≡◌ {A = ℕ} 0 1 = cc in omega arith

listed_ok : (seen F : List Text) (ps : List Placed) → ok (listed seen F ps) ≡ fresh seen F (texts ps)
unfolding ok listed fresh
listed_ok seen F [] = refl
listed_ok seen F (p ∷ ps) = go (member p.string seen) (any (directly_in p.string) F) (listed_ok (seen ++ (p.string ∷ [])) F ps)
  where
    go : (a b : Bool) → ok (listed (seen ++ (p.string ∷ [])) F ps) ≡ fresh (seen ++ (p.string ∷ [])) F (texts ps)
        → ok (cond a (Refused 7 p.place) (cond b (listed (seen ++ (p.string ∷ [])) F ps) (Refused 8 p.place))) ≡ (not a && (b && fresh (seen ++ (p.string ∷ [])) F (texts ps)))
    go true b e = refl
    go false true e = e
    go false false e = refl

located-ok : (F G : List Text) (p : Placed) → ok (located F G p) ≡ member p.string F
unfolding ok located
located-ok F G p = go (member p.string F) (member p.string G)
  where
    go : (a b : Bool) → ok (cond a Ok (cond b (Refused 10 p.place) (Refused 9 p.place))) ≡ a
    go true b = refl
    go false true = refl
    go false false = refl

named_ok : (p : Placed) → ok (name_told p) ≡ usable p.string
unfolding ok name_told usable
named_ok p = go (is_crate p.string) (is_identifier p.string && not (is_keyword p.string))
  where
    go : (a b : Bool) → ok (cond a (Refused 11 p.place) (cond b Ok (Refused 12 p.place))) ≡ (not a && b)
    go true b = refl
    go false true = refl
    go false false = refl

-- without places
abbrev plain : PlacedRemapping → Remapping
plain r = record { context = r.context.string; name = r.name.string; target = r.target.string }

unfoldable plains : List PlacedRemapping → List Remapping
plains [] = []
plains (r ∷ l) = plain r ∷ plains l

plains-more : (l : List PlacedRemapping) (r : PlacedRemapping) → plains (l ++ (r ∷ [])) ≡ plains l ++ (plain r ∷ [])
unfolding plains
plains-more [] r = refl
plains-more (q ∷ l) r = ap (λ (x : List Remapping). plain q ∷ x) (plains-more l r)

alike-any : (r : PlacedRemapping) (l : List PlacedRemapping) → any (same_remapping r) l ≡ any (alike (plain r)) (plains l)
unfolding any same_remapping alike plains
alike-any r [] = refl
alike-any r (q ∷ l) = rw (alike-any r l)

ok_ok : ok Ok ≡ true
unfolding ok
ok_ok = refl

ok-cond : (a : Bool) (n p : ℕ) (c : Checked) → ok (cond a (Refused n p) c) ≡ (not a && ok c)
unfolding ok
ok-cond true n p c = refl
ok-cond false n p c = refl

remapped-ok : (F G : List Text) (seen l : List PlacedRemapping) → ok (remapped F G seen l) ≡ usable_all F (plains seen) (plains l)
unfolding remapped usable_all plains
remapped-ok F G seen [] = ok_ok
remapped-ok F G seen (r ∷ l) =
    rw (ok_or, located-ok, ok_or, located-ok, ok_or, named_ok, ok-cond, alike-any r seen, remapped-ok F G (seen ++ (r ∷ [])) l, plains-more)

-- what the bytes list, and the value's lists
pub paths-each : (s : List ℕ) (n at : ℕ) → texts (each (after_file s) (placed_at s) n at) ≡ map (λ (f : File). f.path) (each (after_file s) (file_at s) n at)
unfolding each placed_at file_at
paths-each s zero at = refl
paths-each s (suc n) at = ap (λ (l : List Text). text s at ∷ l) (paths-each s n (after_file s at))

plains-each : (s : List ℕ) (n at : ℕ) → plains (each (after_remapping s) (placed_remapping_at s) n at) ≡ each (after_remapping s) (remapping_at s) n at
unfolding each placed_remapping_at placed_at remapping_at plains
plains-each s zero at = refl
plains-each s (suc n) at = ap (λ (l : List Remapping). remapping_at s at ∷ l) (plains-each s n (after_remapping s at))

pub texts-append : (x y : List Placed) → texts (x ++ y) ≡ texts x ++ texts y
texts-append [] y = refl
texts-append (p ∷ x) y = ap (λ (l : List Text). p.string ∷ l) (texts-append x y)

conflicts-ok : (s : List ℕ) → ok (conflicts s)
    ≡ (fresh (root ∷ []) (with_slash (decode s).folders) ((decode s).folders ++ map (λ (f : File). f.path) (decode s).files)
    && (usable_all (with_slash (decode s).folders) [] (decode s).remappings && member (decode s).root (with_slash (decode s).folders)))
unfolding conflicts decode plains placed_at
conflicts-ok s =
    let F = texts-each s (after s) (folder_count s) (folder_first s) in
    let G = paths-each s (file_count s) (file_first s) in
    let M = plains-each s (remapping_count s) (remapping_first s) in
    rw (ok_or, listed_ok, ok_or, remapped-ok, located-ok, texts-append, F, G, M)

pub conflicts-free : (s : List ℕ) → conflicts s ≡ Ok → Unconflicted (decode s)
conflicts-free s h =
    let e = sym (conflicts-ok s) ∙ (ap ok h ∙ ok_ok) in
    let a = both (fresh (root ∷ []) (with_slash (decode s).folders) ((decode s).folders ++ map (λ (f : File). f.path) (decode s).files)) _ e in
    let b = both (usable_all (with_slash (decode s).folders) [] (decode s).remappings) _ a.1 in
    record { paths = a.0; remappings = b.0; root = b.1 }

pub free-conflicts : (s : List ℕ) → Unconflicted (decode s) → conflicts s ≡ Ok
free-conflicts s u = ok-is (conflicts s) (conflicts-ok s ∙ rw (u.paths, u.remappings, u.root))
