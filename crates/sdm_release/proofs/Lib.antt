pub mod Places
pub mod OfTrainAndTrack
pub mod Halving
