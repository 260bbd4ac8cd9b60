-- DEFINITIONS: the calls and their arguments, the register, the tree as a list of entries, the tree as arrays
pub mod Step
pub mod Register
pub mod Note
pub mod Flat
pub mod Form
pub mod Told
pub mod Kinds
pub mod Entries
pub mod Trees
pub mod Looks
-- THEOREMS to cite: the register and the list of entries are one; what bounds a walk through the index
pub mod Same
pub mod Routes
pub mod Walks
-- LAWS, for the code's proofs and for the theorems of scopes
pub mod Laws
pub mod Sim
pub mod Rows
pub mod Index
pub mod Forms
pub mod FormLaws
pub mod Nav
pub mod Staging
pub mod Views
pub mod Pack
