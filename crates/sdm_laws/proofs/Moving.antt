-- Motions of a train: how it brakes within a curve, and how far it comes before its brakes work.
pub mod Stretch
pub mod Braking
pub mod SliceBounds
pub mod Reaction
