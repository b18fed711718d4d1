pub mod Whole
pub mod Callers
