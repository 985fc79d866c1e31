-- The laws of the refusals of a spread and a page and of the end of an output.
pub mod Outcomes
pub mod Finishing
