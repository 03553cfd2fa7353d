pub mod Guard
pub mod LateReadings
pub mod Messages
pub mod Missing
pub mod Runs
