-- DEFINITIONS: what contracts speak of, with their laws for the code
pub mod Steps
