-- The rows of a stack's table.
pub mod Walk
pub mod Growths
pub mod Evaluate
