-- DEFINITIONS: the chain of an import, when each call is refused; scope_tree has what they stand on
pub mod Chain
pub mod Refusals
-- THEOREMS to cite: what an accepted use imported, and its chain; refusals exactly when; a model in the original's shape; cases computed
pub mod Imports
pub mod RefusalTheorems
pub mod FormTheorems
pub mod Named
pub mod NoRepeats
pub mod Rust
pub mod Cases
-- LAWS for those theorems
pub mod RefusalLaws
