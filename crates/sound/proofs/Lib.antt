pub mod HolderLaws
pub mod PairLaws
pub mod FirstLaws
pub mod ShareLaws
