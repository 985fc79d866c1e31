-- What refusals mean.
pub mod Meaning
