pub mod Faults
pub mod Encode
pub mod Packing
pub mod Promises
