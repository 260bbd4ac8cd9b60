-- definitions
pub mod Started
pub mod Parts
pub mod Strings
