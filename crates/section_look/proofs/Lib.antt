pub mod AsTrees
pub mod Submitting
