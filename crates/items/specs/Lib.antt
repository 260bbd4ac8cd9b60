-- LAWS for code and proofs
pub mod Uses
pub mod Written
pub mod UseRoom
pub mod WholeImage
