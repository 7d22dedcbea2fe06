pub mod Differing
pub mod Exact
pub mod Laws
pub mod Controls
pub mod Answered
pub mod Memory
pub mod Identifiers
pub mod Patching
