pub mod Tiled
pub mod Layout
pub mod Pieces
