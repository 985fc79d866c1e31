-- What the writer of a track's row asks and leaves behind.
pub mod Rows
pub mod Marks
