-- A bundle as data. Assumes nothing.
use Rattle.std.specs.Prelude.{ℕ, List, ◌∷◌}
use Rattle.names.specs.Path.{root as slash-path}

-- a string: its bytes
abbrev pub Text : Type 0
Text = List ℕ

-- an element of a use; an empty alias is none
pub record Element : Type 0 where
  pub name : Text
  pub alias : Text

-- what every item begins with; its mark is its offset in the bundle; visibility: 0 private, 1 public
pub record Head : Type 0 where
  pub kind : ℕ
  pub mark : ℕ
  pub visibility : ℕ
  pub name : Text

-- Items one after the other, each with its mark and its visibility.
pub data Items : Type 0 where
  none : Items
  -- a type alias (kind 1), a function (2) or an enum (4)
  named : (head : Head) (rest : Items) → Items
  use_of : (mark visibility : ℕ) (segments : List Text) (elements : List Element) (rest : Items) → Items
  module_of : (mark visibility : ℕ) (name : Text) (inner rest : Items) → Items
  ignored : (mark visibility : ℕ) (rest : Items) → Items

pub record Remapping : Type 0 where
  pub context : Text
  pub name : Text
  pub target : Text

pub record File : Type 0 where
  pub path : Text
  pub items : Items

-- the first file is the entry
pub record Bundle : Type 0 where
  pub version : ℕ
  pub root : Text
  pub folders : List Text
  pub remappings : List Remapping
  pub files : List File

-- `/` is always a folder, whether it is listed or not
abbrev pub with_slash : List Text → List Text
with_slash folders = slash-path ∷ folders
