pub mod Macros
pub mod Numerals
pub mod Arithmetic
pub mod Drives
pub mod Exact
pub mod Span
