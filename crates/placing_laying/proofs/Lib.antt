pub mod Lays
pub mod Laying
pub mod Steps
