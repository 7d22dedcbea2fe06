pub mod Showing
pub mod Following
pub mod Opening
pub mod Tags
