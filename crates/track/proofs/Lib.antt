-- The laws of a track's row of characters, and of marks compared eight at a time.
pub mod Rows
pub mod Marks
