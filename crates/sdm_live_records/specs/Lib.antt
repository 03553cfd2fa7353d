pub mod Fields
pub mod Live
