-- Arcs of one speed band: the energy of a distance, the walk that uses it up, places in common steps, arcs back and
-- ahead, and their levels.
pub mod Totals
pub mod Cells
pub mod Energy
pub mod Distances
pub mod Walks
pub mod CommonSteps
pub mod Arcs
pub mod Turned
pub mod BothWays
pub mod Integrals
pub mod Levels
pub mod Segments
