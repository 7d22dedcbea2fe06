pub mod Runs
pub mod Turns
pub mod Served
pub mod Printing
pub mod Sums
pub mod InTurn
