pub mod Found
pub mod Parts
pub mod Reading
pub mod Spelling
pub mod Table
