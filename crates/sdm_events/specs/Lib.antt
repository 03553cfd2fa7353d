pub mod Columns
pub mod Journey
pub mod Left
