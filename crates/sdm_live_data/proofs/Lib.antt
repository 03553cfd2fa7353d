mod Decided
mod LastLines
mod Gathering
mod DivisionCases
