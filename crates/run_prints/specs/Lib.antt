pub mod Totals
pub mod Prints
