-- The lemmas that every layer cites.
pub mod Bools
pub mod Lists
pub mod Orders
pub mod Pigeonhole
pub mod Overlay
