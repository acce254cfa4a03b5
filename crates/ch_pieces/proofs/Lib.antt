pub mod Putting
pub mod Ranked
pub mod Spaces
pub mod Cuts
pub mod Counts
