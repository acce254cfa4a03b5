pub mod Assembled
pub mod InOrder
pub mod Counting
pub mod Candidates
