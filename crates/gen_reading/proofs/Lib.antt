pub mod Whole
pub mod Within
pub mod Files
pub mod Plans
pub mod Scripts
