-- Where each vertex's edges begin.
pub mod Starts
