-- The table over all spreads.
pub mod Walking
