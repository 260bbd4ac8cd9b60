-- DEFINITIONS: lists of calls as bytes; with their laws
pub mod Lists
