-- definitions
pub mod Outcome
pub mod Run
pub mod Files
pub mod Results
pub mod Report
pub mod Call
pub mod Told
-- theorems to cite
pub mod Theorems
pub mod Demand
pub mod Exact
pub mod Cases
pub mod Examples
-- laws, for the code and for proofs
pub mod Units
pub mod Listed
pub mod Writing
pub mod Steps
pub mod Join
pub mod Carried
