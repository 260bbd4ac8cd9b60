-- DEFINITIONS: the printed lines; the sizes of the program's arrays, of a text and of what is read
pub mod Lines
pub mod Sizes
-- THEOREMS to cite: the lines of what the linker answers are these, of any bytes; the printed case; how long the text is; what is read
pub mod Whole
pub mod PrintedCase
pub mod Room
pub mod Sent
pub mod LengthTheorems
pub mod DepthTheorems
pub mod SpellingTheorems
pub mod ReadTheorems
-- LAWS, for the code's proofs and for those theorems
pub mod Reports
pub mod Reported
pub mod Units
pub mod Answers
pub mod Told
pub mod Lengths
