-- The answer for a stack and a spread, by the solver.
pub mod Solve
pub mod Arrays
