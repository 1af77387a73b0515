pub mod Handed
pub mod HeaderLaws
pub mod QuestionLaws
pub mod OptionLaws
pub mod ParseLaws
