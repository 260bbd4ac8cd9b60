-- DEFINITIONS: what the writer is handed, and the tree that a commit leaves, with its laws
pub mod Lending
pub mod Filled
