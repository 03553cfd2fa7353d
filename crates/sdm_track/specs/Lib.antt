pub mod Steps
pub mod Ranges
pub mod Sweeps
pub mod Segments
