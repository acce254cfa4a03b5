pub mod Parts
pub mod Searched
