pub mod Capsules
pub mod Plans
pub mod Scripts
