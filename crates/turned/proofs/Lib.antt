-- Where placements of one stack give placements of another, and the other way round, least totals are the same.
pub mod Totals
pub mod UpsideDown
pub mod LeftToRight
pub mod TopStrip
pub mod Inside
-- Facts of small stacks by search, and what they show.
pub mod Searches
pub mod WrongVersions
pub mod MiddleStrip
