pub mod Braking
pub mod KeptCurves
pub mod FallFeet
pub mod KeptFalls
pub mod FallRows
pub mod Asked
pub mod Releases
pub mod Kept
