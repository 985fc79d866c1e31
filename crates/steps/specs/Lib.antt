-- The lines of steps, and what their reader answers.
pub mod Steps
pub mod Parts
