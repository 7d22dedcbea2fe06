pub mod Whole
pub mod Unbroken
