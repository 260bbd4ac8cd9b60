-- DEFINITIONS: the code's answers in the specification's numbers
pub mod Told
