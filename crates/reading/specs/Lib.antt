-- How far a text has been read, and what its reading answers.
pub mod Driver
