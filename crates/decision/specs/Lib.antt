-- DEFINITIONS: what a use stages, and what a decision comes to
pub mod Batches
pub mod Decided
-- LAWS, for the code's proofs and for those of scopes; scope_tree has the definitions that they stand on
pub mod BatchLaws
pub mod Calls
pub mod Plan
pub mod UseLaws
pub mod Uses
