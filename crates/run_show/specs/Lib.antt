pub mod Starts
pub mod Shown
pub mod Refusals
pub mod Stages
