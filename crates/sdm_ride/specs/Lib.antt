pub mod Happenings
pub mod Moments
pub mod Rides
pub mod RideLaws
pub mod Orders
pub mod MotionRides
pub mod ComputerRides
