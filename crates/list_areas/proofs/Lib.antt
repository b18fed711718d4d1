pub mod Good
pub mod Meant
