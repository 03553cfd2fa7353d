pub mod FootLaws
pub mod HiddenLaws
pub mod StepLaws
pub mod WalkLaws
pub mod RowLaws
