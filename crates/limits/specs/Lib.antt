-- A channel's limits on the offset.
pub mod Limits
