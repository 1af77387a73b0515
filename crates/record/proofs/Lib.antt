pub mod FieldLaws
pub mod StateLaws
