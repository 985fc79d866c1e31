-- A text's lines: the trusted definitions, and what the readers of words, numbers and lines answer.
pub mod Lines
pub mod Cut
pub mod Numbers
