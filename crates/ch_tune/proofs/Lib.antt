mod Following
mod Judging
pub mod Unique
