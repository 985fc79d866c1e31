-- The page of a channel: the trusted definitions, what is promised of the paths shown, and the columns by which the code finds them.
pub mod Page
pub mod Promise
pub mod Arrivals
