pub mod Holders
pub mod Maps
pub mod Nqns
pub mod Places
pub mod Ports
pub mod Rows
pub mod Subsystems
pub mod Values
