pub mod Lengths
pub mod Between
pub mod FirstPieces
pub mod NumberFields
pub mod NumberDigits
pub mod PairDigits
