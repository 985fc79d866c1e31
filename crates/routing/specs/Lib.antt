-- Drawable placements: the trusted definitions, and the paths that draw them.
pub mod Paths
pub mod Wiring
