pub mod Divisions
pub mod Waiting
