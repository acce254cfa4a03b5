pub mod Permuted
pub mod Raised
pub mod Turned
pub mod Lowered
pub mod Changed
