-- What the solver's functions share.
pub mod Arrays
pub mod Search
