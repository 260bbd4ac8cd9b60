-- LAWS: the pass that makes a card
pub mod Build
pub mod Linking
pub mod Mapping
pub mod Made
