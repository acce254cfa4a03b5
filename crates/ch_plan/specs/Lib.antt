pub mod Divisor
pub mod Planned
pub mod Ready
pub mod Agreement
