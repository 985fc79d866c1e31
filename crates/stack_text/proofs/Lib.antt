-- Texts that are written are read back: numbers, fields and lines; a line; a file; a stack.
pub mod Cuts
pub mod LineBack
pub mod FileBack
pub mod StackBack
