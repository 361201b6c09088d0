pub mod Remains
