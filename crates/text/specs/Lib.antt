-- DEFINITIONS: words and lines, and what a buffer shows of a text
pub mod Words
pub mod Writing
-- LAWS for the code
pub mod Telling
pub mod Spelling
pub mod LineLaws
