pub mod Decimal
pub mod Readback
