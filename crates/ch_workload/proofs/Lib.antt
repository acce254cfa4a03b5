pub mod Admitted
pub mod Faults
pub mod Readings
pub mod NamesRead
pub mod SessionsRead
pub mod ClientsRead
