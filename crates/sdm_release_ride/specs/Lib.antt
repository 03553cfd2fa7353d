pub mod TripPlaces
pub mod ReleaseRideLaws
