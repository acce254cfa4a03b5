pub mod Unrolled
pub mod Layouts
pub mod Turns
pub mod Copies
