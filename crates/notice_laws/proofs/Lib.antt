pub mod Marking
pub mod Ranging
