pub mod Takes
pub mod Effects
pub mod Driving
pub mod Walks
