pub mod Notices
pub mod Stamps
pub mod Waits
pub mod Laws
pub mod Features
