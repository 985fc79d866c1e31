-- What each refusal means names its number and its word.
pub mod Numbered
