-- DEFINITIONS: what contracts and theorems speak of
pub mod Assemble
pub mod Results
pub mod Image
pub mod Call
pub mod Told
pub mod Given
-- THEOREMS to cite
pub mod Rewritten
pub mod Meaning
pub mod Faults
pub mod Paths
pub mod Theorems
pub mod ImageForm
pub mod Unique
pub mod Demand
pub mod Cases
-- LAWS for code and proofs
pub mod Targets
pub mod Codes
pub mod Walk
pub mod GivenLaws
pub mod FaultRoom
pub mod EnumRoom
pub mod Join
