-- DEFINITIONS: the number of each cause
pub mod Numbers
