pub mod Sessions
pub mod Checked
pub mod Added
pub mod PieceText
pub mod Shown
