pub mod Text
pub mod Parts
pub mod Lines
pub mod Faults
