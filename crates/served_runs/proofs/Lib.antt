pub mod Own
pub mod Between
pub mod Callers
pub mod Steady
pub mod Files
pub mod Scripts
pub mod Whole
