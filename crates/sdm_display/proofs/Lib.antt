pub mod Halving
pub mod ShownFields
pub mod Seen
mod CausePieces
