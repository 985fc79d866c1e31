-- The laws of the fill.
pub mod Strips
pub mod Bands
