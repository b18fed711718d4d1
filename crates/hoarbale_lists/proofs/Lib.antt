pub mod Checking
pub mod Painting
pub mod States
