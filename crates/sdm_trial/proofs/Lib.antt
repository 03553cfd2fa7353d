mod FixedData
pub mod Accepted
pub mod CycleReadings
pub mod Cycles
mod Counting
