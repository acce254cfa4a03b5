pub mod Spots
pub mod Named
pub mod TextOrders
pub mod Accesses
pub mod Names
pub mod Growing
pub mod Series
pub mod Judging
