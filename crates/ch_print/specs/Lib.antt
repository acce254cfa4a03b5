pub mod Instances
pub mod Lists
pub mod Numbers
