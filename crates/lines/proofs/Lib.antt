-- The laws of lines, fields and numbers that proofs of this crate and of the layers above cite.
pub mod Cutting
pub mod Digits
pub mod Fields
pub mod Places
