pub mod GridPoints
