pub mod Boxed
pub mod Capped
pub mod Corners
pub mod Distinct
mod Examples
pub mod Fits
pub mod FlatItems
pub mod FlatRuns
pub mod Flattens
pub mod Places
pub mod Rests
pub mod Runs
pub mod Signed
pub mod Sounds
pub mod StartCells
pub mod Turns
pub mod Values
pub mod Walks
