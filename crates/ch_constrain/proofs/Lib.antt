pub mod Coordinates
pub mod Values
pub mod Numbered
pub mod Least
pub mod Onward
pub mod Scanned
