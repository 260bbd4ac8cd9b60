-- definitions
pub mod Limits
pub mod Padded
pub mod Linearize
pub mod Order
pub mod Given
pub mod Told
-- theorems to cite
pub mod OrderTheorems
pub mod GivenTheorems
pub mod ToldTheorems
pub mod Cases
-- laws, for the code and for proofs
pub mod Facts
pub mod State
pub mod Position
pub mod Steps
pub mod GivenFacts
