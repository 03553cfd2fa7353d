pub mod Going
pub mod Taking
pub mod Runs
pub mod Remembering
pub mod Brakes
pub mod MessageCases
pub mod LateReadings
pub mod LateReadingCases
