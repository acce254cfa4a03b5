pub mod Asked
pub mod Cases
pub mod Drafts
pub mod Meeting
pub mod Placed
