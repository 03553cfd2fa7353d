pub mod MapLaws
pub mod Slices
pub mod Steps
pub mod Motions
