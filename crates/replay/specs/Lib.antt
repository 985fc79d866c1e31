-- Steps replayed from their text: the trusted statements.
pub mod Replay
pub mod Value
pub mod Parts
