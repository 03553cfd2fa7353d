-- What is said of a reading and its row: the order of the machines, the stop, and the other promises.
pub mod TriggerOrder
pub mod Nearness
pub mod MachineOrder
pub mod Ceiling
pub mod Gaps
pub mod ReleaseStart
pub mod PrintedLimits
pub mod StopFacts
pub mod Stops
pub mod WithinSvl
pub mod CalculatedRelease
pub mod TripPlaces
pub mod Passing
pub mod Headline
pub mod Falls
pub mod Journeys
