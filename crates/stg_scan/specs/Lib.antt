pub mod Scan
pub mod Rest
