-- Brake curves over all bands: corners, the order of places, rounding and its slack, scales, and levels.
pub mod Bands
pub mod Corners
pub mod Chains
pub mod CurveOrder
pub mod TwoCurves
pub mod Slack
pub mod CurveScales
pub mod CurveNearness
pub mod Nearest
pub mod CurveLevels
