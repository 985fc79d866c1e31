-- What a scan of the totals asks for and leaves.
pub mod Scan
