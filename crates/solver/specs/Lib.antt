-- The placement for a total.
pub mod Placing
