pub mod ReplyLaws
pub mod OrderLaws
pub mod LadderLaws
pub mod AnswerLaws
