-- A stack's text: the trusted definitions, the documents' number, line and field for a refusal, and what the reader of a line of any kind answers.
pub mod Text
pub mod Layout
pub mod Outcome
pub mod Kinds
