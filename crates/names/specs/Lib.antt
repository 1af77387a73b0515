pub mod FoldTable
pub mod Comparison
pub mod Labels
