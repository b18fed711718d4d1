pub mod Runs
pub mod Placing
