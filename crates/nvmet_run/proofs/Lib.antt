pub mod Known
pub mod Making
pub mod Ending
pub mod Settling
pub mod Serving
