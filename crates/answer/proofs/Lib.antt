-- The solver's answer is the answer of Stack.antt.
pub mod Legal
pub mod Alone
pub mod Answers
pub mod Standing
