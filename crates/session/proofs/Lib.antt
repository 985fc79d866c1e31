-- The laws of sessions, and the promises proved.
pub mod Values
pub mod Steps
pub mod Made
pub mod Spreads
pub mod Promises
