pub mod CornerCases
