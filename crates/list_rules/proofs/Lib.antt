pub mod ByIndex
pub mod Turns
