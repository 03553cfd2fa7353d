pub mod Live
pub mod Parts
pub mod Rows
pub mod SameRun
pub mod Memory
