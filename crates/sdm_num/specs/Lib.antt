pub mod Units
pub mod Fractions
pub mod Bounds
pub mod Readings
