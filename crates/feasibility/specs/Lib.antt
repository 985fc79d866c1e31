-- What the test of feasibility works out.
pub mod Trying
