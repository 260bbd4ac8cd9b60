-- DEFINITIONS: the lines `has` of a tree
pub mod Entries
-- LAWS for the code
pub mod EntryLaws
