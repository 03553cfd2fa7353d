pub mod OutcomeLines
