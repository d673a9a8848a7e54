pub mod Number
pub mod Macro
pub mod Lent
pub mod Range
pub mod Layout
pub mod Forms
pub mod Faults
