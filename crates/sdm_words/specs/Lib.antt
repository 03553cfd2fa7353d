pub mod Words
pub mod Abouts
