pub mod Depends
pub mod Free
pub mod Sought
