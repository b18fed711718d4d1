pub mod Areas
pub mod Meant
