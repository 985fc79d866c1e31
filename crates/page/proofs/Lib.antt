-- The paths that a page shows, and the page by the columns at which they come to each track.
pub mod Leads
pub mod Arms
pub mod Plain
pub mod Inside
pub mod Alone
pub mod Told
pub mod Arriving
pub mod Arrivals
pub mod Painted
