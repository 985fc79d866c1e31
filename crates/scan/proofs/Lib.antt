-- The laws of the scan: cells, strips, totals.
pub mod Tables
pub mod Scanning
pub mod Scans
