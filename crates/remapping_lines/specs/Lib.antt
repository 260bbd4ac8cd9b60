-- DEFINITIONS: what contracts speak of
pub mod Lines
pub mod Told
-- THEOREMS to cite
pub mod SplitTheorems
pub mod Theorems
pub mod Printed
pub mod Cases
-- LAWS for the code
pub mod Splitting
pub mod Testing
pub mod Tested
pub mod Writing
pub mod Answers
