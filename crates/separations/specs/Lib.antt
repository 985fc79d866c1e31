-- The separations for a total.
pub mod Separations
