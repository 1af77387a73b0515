pub mod ConstantTables
pub mod FoldLaws
pub mod FoldTable
pub mod PairLaws
pub mod NameLaws
