pub mod Trips
pub mod TripSpeeds
pub mod Untripped
pub mod ReleaseRides
pub mod ReleaseEnds
pub mod SameTrains
