pub mod Records
pub mod Paint
pub mod Flat
pub mod OverInt
pub mod Lists
pub mod Cut
