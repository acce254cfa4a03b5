pub mod Benches
pub mod Seated
pub mod Walk
