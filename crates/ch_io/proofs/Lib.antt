pub mod InputRead
pub mod TextWritten
