pub mod Halts
pub mod Lines
