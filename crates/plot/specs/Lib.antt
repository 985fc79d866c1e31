-- What the page's writer asks and leaves behind.
pub mod Drawing
