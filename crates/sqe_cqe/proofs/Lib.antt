pub mod Again
pub mod Anas
pub mod Connects
