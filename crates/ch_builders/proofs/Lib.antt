pub mod Enough
pub mod Laid
