-- The laws of what the readers of the lines of steps answer.
pub mod Answers
