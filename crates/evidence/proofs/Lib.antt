-- The statements of specs/, proved, and wrong versions that break the promises.
pub mod Alone
pub mod Replies
pub mod Opened
pub mod Specimens
pub mod WrongVersions
pub mod Turned
