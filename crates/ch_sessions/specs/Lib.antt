pub mod Plans
pub mod Desks
