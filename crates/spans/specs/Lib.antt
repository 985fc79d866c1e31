-- Spans of positions, and by them the least total and its placement: definitions over windows and limit lists.
pub mod Spans
pub mod Solver
pub mod Placed
pub mod Jump
pub mod Growth
