-- The laws of the greatest number and of the sum over a stack's strips.
pub mod Folds
