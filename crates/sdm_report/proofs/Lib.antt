pub mod KeyPaths
pub mod Pieces
