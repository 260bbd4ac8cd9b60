-- DEFINITIONS: a tree as rows of numbers; with their laws
pub mod Written
pub mod TreeRows
