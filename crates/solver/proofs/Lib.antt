-- A list stored and read back, and the placement put together.
pub mod Stored
pub mod Placing
