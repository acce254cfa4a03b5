pub mod Asked
pub mod Conducts
pub mod Fit
pub mod Lines
pub mod Outs
pub mod Weighted
