pub mod Extents
pub mod Held
pub mod Parts
pub mod Together
