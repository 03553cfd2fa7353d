pub mod Numbers
pub mod Lines
pub mod Forms
pub mod Input
pub mod Text
pub mod FaultLines
pub mod Flat
pub mod Trial
