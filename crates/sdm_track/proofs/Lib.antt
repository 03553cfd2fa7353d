pub mod AcceptedTracks
pub mod StepLaws
pub mod LowestLaws
pub mod LowLaws
pub mod SweepLaws
pub mod SegmentLaws
