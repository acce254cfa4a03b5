pub mod Accesses
pub mod Uses
pub mod Plans
pub mod Bodies
pub mod Copied
pub mod Copyable
