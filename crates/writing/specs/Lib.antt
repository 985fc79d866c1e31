-- A table's text: the trusted definitions, and what is written over an output.
pub mod TableText
pub mod Output
