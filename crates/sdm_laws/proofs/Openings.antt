-- Openings: slopes that are accepted, and the first fault of an opening.
pub mod AcceptedSlopes
pub mod Settled
pub mod Search
pub mod Decided
pub mod OneFault
