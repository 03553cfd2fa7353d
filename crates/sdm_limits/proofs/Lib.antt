pub mod Distances
pub mod Passed
pub mod Places
