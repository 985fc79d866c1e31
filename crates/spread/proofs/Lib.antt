-- The laws of one spread, and the third demand of what is returned.
pub mod Spreads
pub mod Totals
pub mod Placements
pub mod Both
pub mod Single
