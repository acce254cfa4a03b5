pub mod Product
pub mod Generated
pub mod Summaries
