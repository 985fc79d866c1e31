-- The laws of the trial's tests, and the verdict put together.
pub mod Trying
pub mod Verdict
