mod Composing
mod LiveRows
pub mod SameRun
mod Logging
