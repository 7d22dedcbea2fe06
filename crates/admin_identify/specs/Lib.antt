pub mod Controller
pub mod Namespace
pub mod ActiveList
pub mod Descriptors
pub mod Identify
pub mod Apart
