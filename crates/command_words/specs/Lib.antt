pub mod Commands
pub mod Misuses
