pub mod Onward
pub mod Step2
