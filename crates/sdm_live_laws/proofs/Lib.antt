pub mod TakenTurns
mod Scan
mod Written
mod Unbroken
mod LineLengths
mod LineRecords
mod Marks
mod SameRows
mod TurnCases
mod RowLines
pub mod SameText
