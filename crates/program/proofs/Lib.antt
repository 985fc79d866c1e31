-- The laws of a line of the input.
pub mod Lines
