pub mod Inputs
pub mod States
pub mod Sizes
pub mod Extents
pub mod Desks
pub mod Bindings
pub mod Laws
pub mod Starts
