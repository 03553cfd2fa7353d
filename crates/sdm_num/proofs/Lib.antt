pub mod Comparisons
pub mod Ints
pub mod Floors
pub mod Order
pub mod Sides
