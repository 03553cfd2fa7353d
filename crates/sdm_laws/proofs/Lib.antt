pub mod OneBand
pub mod BrakeCurves
pub mod Moving
pub mod Rows
pub mod Openings
pub mod Marks
