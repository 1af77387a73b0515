pub mod WriteLaws
pub mod EntryLaws
pub mod SweepLaws
pub mod FreshLaws
