-- DEFINITIONS: what contracts speak of
pub mod ResolveTold
pub mod OrderTold
pub mod GraphTold
pub mod LinkTold
pub mod TreeTold
pub mod RemappingsTold
-- THEOREMS to cite
pub mod Theorems
pub mod TreeTheorems
pub mod RemappingTheorems
-- LAWS for the code
pub mod LinkLaws
