pub mod Counters
pub mod Holds
pub mod Lives
