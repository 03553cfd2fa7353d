pub mod ServicePromises
pub mod ServiceDelays
pub mod Drivers
pub mod ServiceComputers
