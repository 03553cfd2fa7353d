pub mod Sizes
pub mod SlopeTerms
pub mod Sides
pub mod Stretches
pub mod Rows
pub mod Pushes
pub mod SlopeLaws
pub mod Making
