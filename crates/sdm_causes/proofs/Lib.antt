pub mod Caused
mod Explained
pub mod Parts
mod CauseCases
