pub mod Metering
pub mod Levels
mod Examples
