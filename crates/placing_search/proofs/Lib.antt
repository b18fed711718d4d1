pub mod Clears
pub mod Turns
pub mod OnBoard
