-- What a use's path becomes, as the code has it: the id of a unit and how many segments are left. Assumes nothing.
-- the path that a target stands for
use Rattle.std.specs.Prelude.{ℕ, suc, ◌+◌, ◌-◌, ◌≤◌, ◌<◌, Bool, true, false, cond, eqb, ltb, ◌≡◌, Option, Some, None, length, get_or, take, drop}
use Rattle.std.specs.List.{position as position_by}
use Rattle.std.specs.Result.{result_ok}
use Rattle.std.specs.Option.{unwrap_or}
use Rattle.std.proofs.Common.{arith, sym, ◌∙◌, ltb-false, length-append, length-take-le, drop_at}
use Rattle.std.proofs.Math.Path.{refl, ap}
use Rattle.std.proofs.Math.Seq.{take-length}
use mathlib.Core.List.{List, [], ◌∷◌, ◌++◌, Memᴰ}
use Rattle.names.specs.Bytes.{ascii, member}
use Rattle.names.specs.Decimal.{unit_name}
use Rattle.bundle.specs.Bundle.{Text, Bundle}
use Rattle.bundle.specs.Limits.{file_limit}
use Rattle.bundle.specs.Decode.{decode}
use Rattle.resolution.specs.Lists.{lists_of}
use Rattle.resolution.specs.Resolution.{Resolved, to, fails, resolve_path_internal}
use Rattle.resolution.specs.Call.{position}
use Rattle.resolution.specs.Told.{answered}
use Rattle.resolution.specs.declared.Found.{Found}
use Rattle.resolution.specs.declared.Target as resolution
use Rattle.resolution.specs.declared.Target.TheVariants.{File, Folder}
use Rattle.discovery.specs.Discovery.{Use, uses, program_of, paths_of}
use Rattle.discovery.specs.Search.{index_in, index-small, index_is}
use Rattle.discovery.specs.declared.known.Known.{Known}
use Rattle.discovery.specs.Walk.{use_at}
use Rattle.discovery.specs.Known.{Row, Held, Finds, Rises, held, found as entry_found}
use Rattle.order.specs.Run.{units_of}
use Rattle.assembly.specs.Assemble.{new_path, rewrite_use, file_of}
use Rattle.assembly.specs.Paths.{LeftOf, left-of}
use Rattle.assembly.specs.declared.targets.Target.{Target}

abbrev pub path_by : List Text → Option Target → List Text
path_by segments (Some t) = ascii "crate" ∷ unit_name t.id ∷ drop (length segments - t.left) segments
path_by segments None = []

-- no more is left than there is, and the id is small
abbrev pub Within : List Text → Option Target → Type 0
Within segments (Some t) = (t.left ≤ length segments) × (t.id ≤ file_limit)
Within segments None = Unit {0}

-- the uses of a file, and a mark that is one of theirs
abbrev pub file_uses : List ℕ → Text → List Use
file_uses s file = uses (program_of (decode s).files file)

abbrev pub InFile : List ℕ → Text → ℕ → Type 0
InFile s file mark = Memᴰ (use_at s mark) (file_uses s file)

-- what the functions over the items of a unit are handed: the table with the files of all units, and the unit's id
pub record UnitOf (s : List ℕ) (k : Known) (units u : ℕ) : Type 0 where
  pub unit : u < units
  pub fits : units ≤ length k.files
  pub few : units ≤ file_limit
  -- a unit's id is the place of its file among the units' files
  pub ids : (p : Text) → member p (paths_of (decode s)) ≡ true → position p (units_of (decode s)) ≡ index_in (position p (paths_of (decode s))) (take units k.files)
  -- each use of the file has its entry
  pub place : get_or k.files u 0 < file_limit
  pub table : Row k (get_or k.files u 0) (lists_of (decode s)) (file_of (decode s) u) (file_uses s (file_of (decode s) u))
  pub rise : Rises (file_uses s (file_of (decode s) u))
  pub others : (p : Text) → member p (paths_of (decode s)) ≡ false → position p (units_of (decode s)) ≡ units

-- the segments that are left are the last ones
left-last : (segments rest before : List Text) (first : Text) → segments ≡ first ∷ (before ++ rest) → (drop (length segments - length rest) segments ≡ rest) × (length rest ≤ length segments)
left-last segments rest before first e =
    let n : length segments ≡ suc (length before) + length rest = ap length e ∙ (let l = length-append before rest in omega arith) in
    (ap (drop (length segments - length rest)) e ∙ drop_at (first ∷ before) rest (length segments - length rest) (omega arith), omega arith)

-- what stands for the answer of a lookup
abbrev pub unit_by : List ℕ → ℕ → resolution.Target → ℕ
unit_by files units (File f) = index_in f (take units files)
unit_by files units (Folder f) = units

abbrev target : ℕ → ℕ → Target
target id left = record { id = id; left = left }

abbrev pub target_by : List ℕ → ℕ → Option Found → Option Target
target_by files units (Some f) = Some (target (unit_by files units f.target) f.left)
target_by files units None = None

-- the place of a file among those of the units, as the code finds it
pub found_unit : (files : List ℕ) (units file : ℕ) → units ≤ length files → unwrap_or (position_by (λ g. eqb g file) (take units files)) units ≡ index_in file (take units files)
found_unit files units file fits =
    let small = rw (index_is file (take units files)) at (index-small file units files) in
    rw (index_is file (take units files), length-take-le units files fits) (go _ small _ refl)
  where
    go : (i : ℕ) → i ≤ units → (b : Bool) → ltb i units ≡ b → unwrap_or (cond b (Some i) None) units ≡ i
    go i h true e = refl
    go i h false e = let l = ltb-false i units e in omega arith

-- the same where the units' files stand alone
pub found_there : (files : List ℕ) (file : ℕ) → unwrap_or (position_by (λ g. eqb g file) files) (length files) ≡ unit_by files (length files) (File file)
found_there files file = ap (λ (l : List ℕ). unwrap_or (position_by (λ g. eqb g file) l) (length files)) (sym (take-length files)) ∙ found_unit files (length files) file (omega arith)

pub units_alone : (files : List ℕ) (units : ℕ) → units ≤ length files → (t : resolution.Target) → unit_by (take units files) (length (take units files)) t ≡ unit_by files units t
units_alone files units fits (File f) = ap (index_in f) (take-length (take units files))
units_alone files units fits (Folder f) = length-take-le units files fits

module _ (s : List ℕ) (k : Known) (units id : ℕ) (u : UnitOf s k units id) (segments : List Text) where
  abbrev files : List ℕ
  files = k.files

  abbrev b : Bundle
  b = decode s

  abbrev file : Text
  file = file_of b id

  abbrev Right : Option Target → Type 0
  Right t = (rewrite_use b file segments ≡ path_by segments t) × Within segments t

  module _ (p : Text) (rest : List Text) (e : resolve_path_internal (lists_of b) file segments ≡ to p rest) where
    left : LeftOf (lists_of b) file segments rest
    left = left-of (lists_of b) file segments p rest e

    last : (drop (length segments - length rest) segments ≡ rest) × (length rest ≤ length segments)
    last = left-last segments rest left.end.before left.first (left.is ∙ ap (λ (l : List Text). left.first ∷ l) left.end.is)

    with_id : (i : ℕ) → position p (units_of b) ≡ i → i ≤ file_limit → Right (Some (target i (length rest)))
    unfolding rewrite_use
    with_id i q h =
        (ap (new_path (units_of b)) e ∙ (ap (λ (n : ℕ). ascii "crate" ∷ unit_name n ∷ rest) q ∙ ap (λ (l : List Text). ascii "crate" ∷ unit_name i ∷ l) (sym last.0)), (last.1, h))

    found : (t : Bool) → member p (paths_of b) ≡ t → Right (Some (target (unit_by files units (cond t (File (position p (paths_of b))) (Folder (position p b.folders)))) (length rest)))
    found true m = with_id (index_in (position p (paths_of b)) (take units files)) (u.ids p m) (let h = index-small (position p (paths_of b)) units files in let k = u.few in omega arith)
    found false m = with_id units (u.others p m) u.few

  resolved : (x : Resolved) → resolve_path_internal (lists_of b) file segments ≡ x → Right (target_by files units (result_ok (answered (lists_of b) x)))
  unfolding rewrite_use
  resolved (to p rest) e = found p rest e (member p (paths_of b)) refl
  resolved (fails f) e = (ap (new_path (units_of b)) e, tt)

  -- there is a target
  pub some-target : (t : Option Target) × Right t
  some-target = (target_by files units (result_ok (answered (lists_of b) (resolve_path_internal (lists_of b) file segments))), resolved (resolve_path_internal (lists_of b) file segments) refl)

-- THE ENTRY OF A USE of the file: it is there, and says the target
module _ (s : List ℕ) (k : Known) (units id : ℕ) (u : UnitOf s k units id) (mark : ℕ) (m : InFile s (file_of (decode s) id) mark) where
  abbrev index : ℕ
  index = get_or k.files id 0

  pub is_held : Held k index mark
  is_held = held u.place u.table u.rise (use_at s mark) m

  pub targeted : (x : Option Found) → Finds k index mark x → (rewrite_use (decode s) (file_of (decode s) id) (use_at s mark).segments ≡ path_by (use_at s mark).segments (target_by k.files units x)) × Within (use_at s mark).segments (target_by k.files units x)
  targeted x w = rw (entry_found u.place u.table u.rise (use_at s mark) m x w) (resolved s k units id u (use_at s mark).segments (resolve_path_internal (lists_of (decode s)) (file_of (decode s) id) (use_at s mark).segments) refl)
