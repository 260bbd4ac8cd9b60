-- DEFINITIONS: steps 1 and 2, the resolution call, and what the code's inner answers mean
pub mod Lists
pub mod Results
pub mod Longest
pub mod Resolution
pub mod Call
pub mod Told
pub mod Segments
pub mod Indices
-- THEOREMS to cite: the table of cases; what holds of any lists; the lookup and 20 to 25 exactly when; accepted bundles
pub mod Cases
pub mod Theorems
pub mod LookupTheorems
pub mod AcceptedTheorems
-- LAWS, for the code and the proofs
pub mod LongestLaws
pub mod CardLaws
pub mod LookupLaws
pub mod TakenLaws
pub mod SegmentLaws
pub mod UseLaws
