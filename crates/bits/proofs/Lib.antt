pub mod BitLaws
pub mod FieldLaws
pub mod PutLaws
pub mod WordLaws
pub mod Appends
