pub mod Cuts
pub mod Disks
pub mod Pieces
