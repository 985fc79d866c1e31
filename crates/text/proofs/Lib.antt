-- The laws of refusals, and of the layout of a line, that proofs of this crate and of the layers above cite.
pub mod Refusals
pub mod Layouts
