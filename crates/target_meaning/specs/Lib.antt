pub mod TreeMeans
pub mod Histories
pub mod Callers
pub mod Executes
