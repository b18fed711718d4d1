pub mod LinePromises
pub mod Outcome
pub mod ListPromises
pub mod Cases
pub mod Placed
pub mod Refusals
pub mod PlaceLists
pub mod PlacePromises
