pub mod Seeds
pub mod Texts
pub mod Entries
pub mod Commands
pub mod Contents
