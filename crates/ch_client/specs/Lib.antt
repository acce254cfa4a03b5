pub mod Lasts
pub mod Arrays
pub mod Stands
