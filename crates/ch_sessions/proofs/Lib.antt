pub mod Knowing
pub mod Seated
