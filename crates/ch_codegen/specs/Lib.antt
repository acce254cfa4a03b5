pub mod Parts
pub mod Around
pub mod Bounds
pub mod Cuts
pub mod LeastValues
pub mod Made
pub mod Formed
