-- The routing theorem: a placement is drawable exactly if it is legal.
pub mod Points
pub mod Crossing
pub mod Necessity
pub mod Counts
pub mod Staircase
pub mod Tracks
pub mod Listed
pub mod Sufficiency
pub mod Runs
pub mod Drawable
