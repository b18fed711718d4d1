pub mod Axis
pub mod Search
pub mod Walk
pub mod Request
pub mod Rules
pub mod OnList
