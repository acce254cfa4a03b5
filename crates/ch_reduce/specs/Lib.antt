pub mod Accumulation
pub mod FreePairs
pub mod Relaxed
