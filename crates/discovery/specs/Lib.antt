-- definitions
pub mod Discovery
pub mod Reached
pub mod InTurn
-- theorems to cite
pub mod Right
pub mod Clean
pub mod FaultTheorems
pub mod ItemOrder
pub mod InTurnTheorems
pub mod Cases
-- laws, for the code and for proofs
pub mod Facts
pub mod InTurnFacts
pub mod Walk
pub mod Room
pub mod Weight
pub mod Search
pub mod Known
pub mod Places
