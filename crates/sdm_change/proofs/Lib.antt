mod PartsSafe
mod KeptOver
