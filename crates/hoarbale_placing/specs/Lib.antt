pub mod Series
pub mod Placing
pub mod Calls
