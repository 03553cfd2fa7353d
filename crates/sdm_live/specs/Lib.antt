pub mod Exchanges
pub mod Lines
pub mod Progress
pub mod Answers
pub mod Taken
pub mod Moments
pub mod ByLines
