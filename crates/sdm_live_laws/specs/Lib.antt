pub mod Turns
pub mod SameRows
