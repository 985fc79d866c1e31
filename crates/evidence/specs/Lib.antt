-- What shows the promises to be the right ones: the trusted statements.
pub mod Alone
pub mod Replies
pub mod Specimens
pub mod Turned
