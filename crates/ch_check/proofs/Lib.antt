pub mod Sessions
pub mod Values
pub mod Lines
pub mod PieceLines
pub mod ShowTexts
