pub mod Replaying
pub mod Opened
pub mod Calling
pub mod Working
