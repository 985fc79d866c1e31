-- Laws of the loops that seek a channel's limits and fill them, and of closing them.
pub mod Terms
pub mod Filling
pub mod Closing
