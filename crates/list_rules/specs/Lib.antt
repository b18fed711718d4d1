pub mod Kept
pub mod Inner
pub mod Held
