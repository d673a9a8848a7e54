pub mod Same
pub mod Wrapping
pub mod Remaining
pub mod Told
