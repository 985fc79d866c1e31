-- The laws of the loops over channels.
pub mod Sums
