pub mod Before
pub mod Count
pub mod Moves
pub mod Sweeping
pub mod Swept
