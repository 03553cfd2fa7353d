pub mod Hiding
pub mod Asking
