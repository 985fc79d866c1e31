-- The levels that the arrays stand for, the laws of a search, and of a span shifted back.
pub mod Options
pub mod Searches
pub mod Levels
pub mod Shifts
