pub mod Decisions
pub mod Digits
pub mod Parts
pub mod Rows
pub mod Written
pub mod Small
