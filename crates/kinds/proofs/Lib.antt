-- The laws of what the readers of each kind of line answer.
pub mod Heads
pub mod Parts
pub mod Nets
pub mod Contents
pub mod Gaps
