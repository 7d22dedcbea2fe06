pub mod Settling
pub mod Ending
