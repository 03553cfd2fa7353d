mod LimitOrder
mod PassedLaws
mod VerdictLaws
mod ShownLaws
mod FirstLaws
mod FallsAsked
mod NearestLaws
mod FindLaws
mod FewLaws
mod EnoughLaws
mod FewWalks
mod FewParts
mod NoneEarlier
mod CountingLaws
mod CycleLaws
mod CurveLaws
pub mod FlatFacts
pub mod FlatCurves
pub mod FlatFormula
pub mod WithinLaws
mod ClearLaws
