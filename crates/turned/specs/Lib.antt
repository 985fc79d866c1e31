-- The card turned over, paths inside the spread, and the top strip's positions: the trusted statements.
pub mod Turned
pub mod Inside
pub mod TopStrip
