pub mod Accesses
pub mod Legal
pub mod Agreement
pub mod Reversed
pub mod WideNumbers
pub mod Walk
pub mod Samples
