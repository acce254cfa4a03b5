pub mod Printed
pub mod Printable
pub mod Back
