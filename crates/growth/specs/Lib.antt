-- What the jump by growing ends asks for and leaves.
pub mod Growth
