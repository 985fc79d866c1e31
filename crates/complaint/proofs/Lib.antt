-- The laws of a line that tells a refusal.
pub mod Telling
