-- The laws of what is printed, and of a trial's numbers.
pub mod Printing
pub mod Steps
pub mod Trials
