pub mod Cut
pub mod Forms
pub mod Parts
pub mod Ends
