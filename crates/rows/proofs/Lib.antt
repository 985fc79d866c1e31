-- The rows that the walk finds are the rows of Stack.antt.
pub mod Settled
pub mod Growths
pub mod Floored
pub mod Rows
pub mod Jumps
pub mod Steps
pub mod Walks
pub mod Evaluating
