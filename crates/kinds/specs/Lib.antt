-- What the reader of each kind of line answers.
pub mod Readers
