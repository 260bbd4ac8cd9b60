-- DEFINITIONS: what contracts and theorems speak of
pub mod Link
pub mod Call
pub mod Told
-- THEOREMS to cite
pub mod Theorems
pub mod Demand
pub mod Evidence
pub mod Cases
-- LAWS for code and proofs
pub mod Refusals
pub mod InForm
pub mod Join
