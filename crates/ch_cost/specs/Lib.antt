pub mod Cost
pub mod Meter
