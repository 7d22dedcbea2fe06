pub mod OneFile
pub mod Parsing
pub mod Sound
pub mod Starting
pub mod QueueLoop
pub mod Walking
pub mod Settling
pub mod Whole
