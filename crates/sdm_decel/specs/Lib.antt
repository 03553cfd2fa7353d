pub mod StretchCells
pub mod Slopes
