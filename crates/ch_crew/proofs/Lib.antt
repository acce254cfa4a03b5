pub mod Closing
pub mod Lasting
pub mod Working
