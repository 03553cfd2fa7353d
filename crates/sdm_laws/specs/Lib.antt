pub mod Energy
pub mod Levels
pub mod CurveLaws
pub mod MotionLaws
pub mod SupervisionLaws
pub mod Falls
pub mod PrintedLimits
pub mod TripPlaces
