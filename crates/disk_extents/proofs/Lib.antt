pub mod Edges
pub mod Splices
pub mod Jobs
pub mod OnParts
pub mod Copies
