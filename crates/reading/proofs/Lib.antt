-- The laws of readings that proofs of this crate and of the layers above cite.
pub mod Floors
pub mod Within
pub mod Stages
pub mod Places
pub mod Whole
