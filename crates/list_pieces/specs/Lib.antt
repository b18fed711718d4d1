pub mod Reach
pub mod Passes
pub mod Pieces
