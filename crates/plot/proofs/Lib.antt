-- The laws of the page's writer: arrivals, lines, pages; and what a page shows.
pub mod Ends
pub mod Lines
pub mod Shown
