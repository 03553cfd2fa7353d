pub mod OnMaps
pub mod Cuts
pub mod Firsts
pub mod SegmentParts
pub mod OneSlope
pub mod Enough
pub mod Known
