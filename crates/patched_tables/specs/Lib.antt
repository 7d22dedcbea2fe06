pub mod Patching
pub mod Keeping
