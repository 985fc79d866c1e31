-- What is answered of one spread: the trusted statements.
pub mod Answers
pub mod Best
pub mod Single
