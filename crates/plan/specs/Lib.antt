-- What the plan of a stack is made from.
pub mod Plan
