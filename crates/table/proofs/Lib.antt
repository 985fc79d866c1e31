-- The laws of the table's walk, and the space that is enough for the table.
pub mod Placed
pub mod Space
pub mod Walks
pub mod Events
pub mod Steps
