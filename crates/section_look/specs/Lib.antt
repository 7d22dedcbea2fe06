pub mod Read
pub mod Loaded
pub mod Trees
pub mod Admissions
pub mod Submits
