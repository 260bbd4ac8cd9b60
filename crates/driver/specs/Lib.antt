-- laws, for the code and for proofs
pub mod Record
pub mod Meaning
pub mod Readings
pub mod Turns
pub mod Complete
pub mod Importing
