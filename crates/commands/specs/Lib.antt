-- What the arguments stand for, and what is printed.
pub mod Words
pub mod Output
pub mod Parts
