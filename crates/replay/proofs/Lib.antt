-- The laws of replaying steps, and the statement proved.
pub mod Taken
pub mod Made
pub mod Going
