-- The refusals of a spread and of a channel, what an answer tells, and what the end of an output leaves behind.
pub mod Refusals
pub mod Told
pub mod Parts
