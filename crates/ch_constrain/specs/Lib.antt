pub mod Nearest
pub mod Scanned
