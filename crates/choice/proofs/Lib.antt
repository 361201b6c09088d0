-- Laws that belong to no one function.
pub mod OfKinds
pub mod ByKind
pub mod Listed
pub mod Outcomes
