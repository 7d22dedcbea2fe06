pub mod Walks
pub mod Parts
pub mod Placed
pub mod Ranges
