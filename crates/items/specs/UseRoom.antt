-- How long a rewritten use can be: what a layer above has to lend for it. Assumes nothing.
use Rattle.std.specs.Prelude.{ℕ, zero, suc, ◌+◌, ◌-◌, ◌*◌, ◌≤◌, Bool, true, false, ◌||◌, ◌≡◌, refl, List, [], ◌∷◌, ◌++◌, eqb, Option, Some, None}
use Rattle.std.proofs.Common.{arith, ap, subst, eqb-true}
use Rattle.std.proofs.Math.Decide.{dec_le}
use lib.ListN.{length, drop, length-append}
use Rattle.names.specs.Bytes.{ascii}
use Rattle.names.specs.Decimal.{unit_name, decimal}
use Rattle.names.specs.Identifier.{is_identifier, long-identifier}
use Rattle.bundle.specs.Bundle.{Text, Element, Items, none}
use Rattle.bundle.specs.Encode.{string, joined, counted, element}
use Rattle.bundle.specs.Form.{Every, IsName, IsAlias, FormedElement, Formed}
use Rattle.bundle.specs.Limits.{file_limit, element_limit, use_kind, module_kind}
use Rattle.bundle.specs.Scan.{byte}
use Rattle.bundle.specs.Decode.{decode}
use Rattle.bundle.specs.Access.{inside_of, item_use}
use Rattle.discovery.specs.declared.known.Known.{Known}
use Rattle.assembly.specs.Assemble.{file_of}
use Rattle.assembly.specs.Paths.{FormedPath, small_width}
use Rattle.encoder.specs.Strings.{string-length}
use Rattle.assembly.specs.Targets.{path_by, Within, UnitOf, some-target}
use Rattle.encoder.specs.Strings.{crate_length}
use Rattle.items.specs.Uses.{use_form}
use Rattle.assembly.specs.Walk.{one_at, segments_at, elements_at, use_bytes}
use Rattle.assembly.specs.declared.targets.Target.{Target}

-- a name has at most 32 bytes
name-few : (t : Text) → IsName t → length t ≤ 32
name-few t h = go (dec_le (length t) 32)
  where
    go : Dec (length t ≤ 32) → length t ≤ 32
    go (yes k) = k
    go (no k) = let f : is_identifier t ≡ false = long-identifier t (omega arith) in let z : ◌≡◌ {A = Bool} true false = cc in absurd (false_true z)
      where
        false_true : true ≡ false → ⊥
        false_true e = let y : ◌≡◌ {A = ℕ} 0 1 = cc in omega arith

alias-few : (t : Text) → IsAlias t → length t ≤ 32
alias-few t h = go (eqb (length t) 0) refl h
  where
    go : (b : Bool) → eqb (length t) 0 ≡ b → (b || is_identifier t) ≡ true → length t ≤ 32
    go true e k = let z = eqb-true (length t) 0 e in omega arith
    go false e k = name-few t k

names-few : (l : List Text) → Every IsName l → length (joined string l) ≤ 33 * length l
unfolding Every joined
names-few [] h = omega arith
names-few (t ∷ l) h =
    let k = names-few l h.1 in
    let n = name-few t h.0 in
    omega (arith, length-append (string t) (joined string l), string-length t)

elements-few : (l : List Element) → Every FormedElement l → length (joined element l) ≤ 66 * length l
unfolding Every joined element
elements-few [] h = omega arith
elements-few (e ∷ l) h =
    let k = elements-few l h.1 in
    let n = name-few e.name h.0.0 in
    let a = alias-few e.alias h.0.1 in
    omega (arith, length-append (element e) (joined element l), length-append (string e.name) (string e.alias), string-length e.name, string-length e.alias)

every_drop : (k : ℕ) (l : List Text) → Every IsName l → Every IsName (drop k l)
unfolding Every
every_drop zero l h = h
every_drop (suc k) [] h = h
every_drop (suc k) (t ∷ l) h = every_drop k l h.1

drop-few : (k : ℕ) (l : List Text) → length (drop k l) ≤ length l
drop-few k l = omega (arith, lib.ListN.length-drop k l)

pub unit-few : (id : ℕ) → id ≤ file_limit → length (string (unit_name id)) ≤ 33
unfolding unit_name ascii
unit-few id h = let w = small_width id (omega arith) in omega (arith, string-length (unit_name id), length-append (ascii "unit_") (decimal id))

path-few : (segments : List Text) (t : Option Target) → Within segments t → FormedPath segments → length (counted string (path_by segments t)) ≤ 568
unfolding counted joined
path-few segments None w f = omega arith
path-few segments (Some t) w f =
    let rest = drop (length segments - t.left) segments in
    let d = drop-few (length segments - t.left) segments in
    let n = names-few rest (every_drop (length segments - t.left) segments f.1) in
    let u = unit-few t.id w.1 in
    let c = f.0 in
    omega (arith, crate_length, length-append (string (ascii "crate")) (string (unit_name t.id) ++ joined string rest), length-append (string (unit_name t.id)) (joined string rest))

-- at most 2,681 bytes
pub use_few : (s : List ℕ) (known : Known) (units id mark : ℕ) → UnitOf s known units id
    → FormedPath (segments_at s mark) → (length (elements_at s mark) ≤ element_limit) × Every FormedElement (elements_at s mark) → length (use_bytes s (file_of (decode s) id) mark) ≤ 2681
unfolding counted
use_few s known units id mark u f g =
    let t = some-target s known units id u (segments_at s mark) in
    let e = ap length (use_form s mark (file_of (decode s) id) t.0 t.1.0) in
    let p = path-few (segments_at s mark) t.0 t.1.1 f in
    let k = elements-few (elements_at s mark) g.1 in
    let n = g.0 in
    omega (arith, length-append (counted string (path_by (segments_at s mark) t.0)) (counted element (elements_at s mark)))

-- of a use that is in form
pub formed_use : (s : List ℕ) (at depth d : ℕ) → byte s (at + 2) ≡ use_kind → Formed (one_at depth s at) d
    → FormedPath (segments_at s at) × ((length (elements_at s at) ≤ element_limit) × Every FormedElement (elements_at s at))
unfolding Formed
formed_use s at depth d k f =
    let g = subst (λ (i : Items). Formed i d) (item_use (inside_of depth s) s at none (λ (e : byte s (at + 2) ≡ module_kind). omega arith) k) f in
    (g.1.0, g.1.1.0)
