pub mod State
pub mod Steps
pub mod Soundness
pub mod Runs
pub mod Lives
pub mod OneStep
pub mod Owners
