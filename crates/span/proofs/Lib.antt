pub mod Fields
pub mod Wide
