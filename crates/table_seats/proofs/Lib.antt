pub mod Eight
pub mod Handing
pub mod Living
pub mod Showing
pub mod Removing
pub mod Submitting
pub mod Taking
