pub mod Fused
pub mod Distributed
pub mod Replaced
