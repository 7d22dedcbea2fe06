pub mod Jobs
pub mod Admission
