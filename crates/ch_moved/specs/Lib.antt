pub mod Moved
pub mod Arguments
pub mod Causes
pub mod Substituted
pub mod Spread
pub mod Changed
pub mod Reindexed
pub mod Room
