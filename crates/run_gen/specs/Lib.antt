pub mod Written
pub mod Summed
pub mod Generated
pub mod Refusals
