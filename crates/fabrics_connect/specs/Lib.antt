pub mod Names
pub mod Registers
pub mod Checks
pub mod After
pub mod Laws
