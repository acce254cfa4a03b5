pub mod Blocks
pub mod ClosedUp
pub mod Closing
mod Examples
pub mod Identities
pub mod ItemCases
pub mod Orders
pub mod Prefixes
pub mod Program
pub mod Rolls
pub mod Sorted
pub mod WellFormed
pub mod Woven
pub mod Listings
pub mod Stays
pub mod MoreArrays
pub mod Values
