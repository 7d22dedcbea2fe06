pub mod Pages
pub mod Tables
pub mod Chosen
pub mod Lists
