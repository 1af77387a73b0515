pub mod SpelledLaws
pub mod AnswerLaws
pub mod RanLaws
