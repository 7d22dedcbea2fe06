pub mod Reported
pub mod Chains
pub mod Linking
