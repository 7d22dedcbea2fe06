pub mod Reading
pub mod Piecing
