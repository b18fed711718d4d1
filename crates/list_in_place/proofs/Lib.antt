pub mod Room
pub mod InPlace
