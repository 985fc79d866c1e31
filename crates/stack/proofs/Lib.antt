-- The laws of the stack's values that proofs of this crate and of the layers above cite.
pub mod Values
pub mod Found
pub mod Rising
pub mod Feasible
pub mod OnStrips
pub mod Within
pub mod Placements
