pub mod Laying
pub mod Ready
pub mod States
