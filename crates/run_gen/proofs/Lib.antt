pub mod Files
pub mod Making
pub mod Ending
