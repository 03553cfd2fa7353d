pub mod Fields
pub mod Rest
pub mod Taken
