-- Definitions on lists that several layers use.
pub mod Lists
