pub mod Bytes
pub mod Signs
pub mod Tokens
pub mod Cut
pub mod Spots
pub mod Keywords
pub mod Codes
