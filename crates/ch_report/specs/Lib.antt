pub mod Numbered
pub mod Points
pub mod Refusals
pub mod Sessions
pub mod Summary
