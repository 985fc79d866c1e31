-- The positions for separations.
pub mod Positions
