-- How far a stack's strips reach.
pub mod Extent
