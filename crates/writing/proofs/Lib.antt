-- The laws of a table's text and of writing it that proofs of this crate and of the layers above cite.
pub mod Digits
pub mod Rows
pub mod Lines
pub mod Bounds
