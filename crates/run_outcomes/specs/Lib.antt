pub mod Numbers
pub mod Texts
pub mod Outsides
pub mod Written
pub mod Names
