pub mod Coded
pub mod CodedRun
