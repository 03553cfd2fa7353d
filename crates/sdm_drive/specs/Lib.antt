pub mod Drive
pub mod Trains
pub mod DriveLaws
pub mod DriveJourneys
pub mod Held
pub mod Faults
pub mod Kept
pub mod Summaries
