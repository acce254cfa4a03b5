pub mod Steps
pub mod Tuned
