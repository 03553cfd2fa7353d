pub mod Along
mod Handing
mod Taking
mod Serving
pub mod DueLines
