pub mod EndingMeans
pub mod Lives
pub mod Publishing
pub mod Resting
pub mod Taking
