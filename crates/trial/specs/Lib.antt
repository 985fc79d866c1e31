-- The trial of a placement: what it says, and the numbers in the places that a stack uses.
pub mod Legal
pub mod Trying
