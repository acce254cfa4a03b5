pub mod FreePairs
pub mod Parts
pub mod Turned
pub mod Relaxed
