pub mod LessAsked
pub mod CutOffs
pub mod TwoColumns
