pub mod RowSets
pub mod Triples
pub mod Kept
