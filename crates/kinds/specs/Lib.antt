pub mod Kind
pub mod Codes
