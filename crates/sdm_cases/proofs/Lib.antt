mod BoundCases
pub mod Journeys
pub mod Openings
mod ReactionCases
mod DecelerationCases
mod ProfileCases
mod CurveCases
mod LimitCases
mod TriggerCases
mod RowCases
mod OpenCases
mod MachineCases
mod MotionCases
pub mod StopCases
mod ReleaseCases
mod ReleaseLimitCases
mod DisplayCases
mod PromiseCases
mod HeadlineCases
mod TakeOverCases
mod RowPromiseCases
mod CoveredFallCases
mod AheadCases
mod NearLimitCases
mod InputCases
mod LineCases
mod TextCases
mod FlatCases
mod TrialCases
pub mod RideTrain
pub mod TickTests
pub mod RideSteps
pub mod RideLine
mod RideBeginning
mod RideCases
mod ChangedCases
pub mod RideLawCases
mod RideTargetCases
mod RideFallCases
mod RideOrderCases
mod PartLawCases
pub mod ComputerSteps
mod ComputerRideCases
pub mod ReleaseRideCases
mod ReleaseChangeCases
mod ReleasePremiseCases
mod ReleaseScaleCases
mod ServiceRideCases
mod EoaRideCases
mod ServiceLawCases
mod LiveRideCases
mod OverGradientCases
mod RealisticRideCases
