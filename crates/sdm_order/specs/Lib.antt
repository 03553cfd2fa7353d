pub mod CurvesInOrder
pub mod AskedTargets
pub mod LimitsInOrder
pub mod EnoughTargets
