-- What is promised of texts, and what the entries answer: the trusted statements.
pub mod Promise
pub mod Entry
pub mod Best
pub mod Space
pub mod Pages
pub mod Sessions
pub mod Parts
