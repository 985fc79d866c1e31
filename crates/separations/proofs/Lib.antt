-- The loop over channels.
pub mod Separating
