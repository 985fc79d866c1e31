-- The loops over strips: spans from the top down, positions from the bottom up.
pub mod Fixing
pub mod Positioning
