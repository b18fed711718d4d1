pub mod Bits
pub mod Build
pub mod Found
pub mod Above
