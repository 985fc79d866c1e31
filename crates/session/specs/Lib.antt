-- Sessions: the trusted statements, and what their parts answer.
pub mod Session
pub mod Value
pub mod Promise
pub mod Parts
