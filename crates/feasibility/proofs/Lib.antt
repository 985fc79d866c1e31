-- Laws of the test whether pairs are wirable.
pub mod Trying
