pub mod Arithmetic
pub mod Rules
