-- Laws of the reader.
pub mod Scan
pub mod Taking
pub mod Laying
pub mod Again
pub mod Outcomes
