pub mod Outside
pub mod Kept
pub mod Pieces
pub mod Stored
pub mod Adapters
