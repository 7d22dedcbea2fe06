pub mod Laying
pub mod Uniting
pub mod Serving
pub mod Fronting
pub mod History
pub mod Righting
pub mod Transcribing
