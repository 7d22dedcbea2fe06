pub mod Told
pub mod Cursors
pub mod Editors
pub mod Steps
pub mod Seats
