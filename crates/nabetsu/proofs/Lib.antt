-- The promises proved, and the laws of the entries.
pub mod Promises
pub mod Space
pub mod Spreads
pub mod Tables
pub mod Pages
pub mod Trials
pub mod Codes
pub mod Numbers
pub mod Sessions
