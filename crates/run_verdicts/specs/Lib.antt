pub mod Places
pub mod Nexts
pub mod Faults
pub mod Laws
