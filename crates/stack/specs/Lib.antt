-- Stacks: the trusted definitions, document 01's limits on them, which list value a struct stands for, what the constructors answer, and the sizes of the arrays.
pub mod Stack
pub mod Limits
pub mod Value
pub mod Lengths
pub mod Made
pub mod Sizes
