pub mod Sessions
pub mod Unique
