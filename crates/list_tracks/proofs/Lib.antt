pub mod Sorted
pub mod Fours
pub mod Named
pub mod Standing
