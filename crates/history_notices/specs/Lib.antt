pub mod Own
pub mod Scripts
pub mod Marks
pub mod Starts
pub mod Laws
