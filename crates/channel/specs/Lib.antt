-- What the code of a channel's limits works out.
pub mod Seeking
