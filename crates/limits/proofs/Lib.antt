-- A channel is feasible exactly if its offset is between its limits.
pub mod Between
pub mod Floors
