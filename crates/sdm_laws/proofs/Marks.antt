-- Marks of stop certificates: from the last one back, each lies within the exact curve to the stop.
pub mod Backwards
pub mod Stopping
