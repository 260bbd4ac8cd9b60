-- DEFINITIONS: parts led by their length, bytes in hexadecimal, and words
pub mod Frames
pub mod Hex
pub mod Words
