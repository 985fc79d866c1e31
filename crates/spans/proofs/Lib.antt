-- The least total, its placement and the jump: theorems over windows and limit lists.
pub mod Spans
pub mod First
pub mod Limits
pub mod Back
pub mod Total
pub mod Order
pub mod Separations
pub mod Positions
pub mod Chosen
pub mod Jump
pub mod Growths
