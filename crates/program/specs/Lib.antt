-- How the status is passed on, and where a line of the input is.
pub mod Status
pub mod Input
