pub mod Span
pub mod Laws
pub mod Made
pub mod Products
