pub mod Admin
