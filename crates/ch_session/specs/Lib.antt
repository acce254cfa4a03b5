pub mod Making
pub mod History
pub mod Replies
pub mod Kept
pub mod Growth
pub mod Laws
