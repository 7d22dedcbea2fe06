pub mod Placing
pub mod Nexts
pub mod Stepping
pub mod Editing
pub mod Replaying
pub mod Seating
pub mod Finding
pub mod Finishing
