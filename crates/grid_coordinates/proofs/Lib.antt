pub mod Clamp
pub mod Promises
