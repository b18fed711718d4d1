pub mod Step1
pub mod Runs
pub mod Outcomes
