-- DEFINITIONS: what contracts and theorems speak of
pub mod Scopes
-- LAWS for code and proofs
pub mod Steps
pub mod Fit
pub mod Units
