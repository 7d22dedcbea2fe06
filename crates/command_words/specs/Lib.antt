pub mod Commands
pub mod Spelling
