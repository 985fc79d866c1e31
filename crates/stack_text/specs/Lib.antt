-- The text of a file and of a stack (trusted).
pub mod StackText
