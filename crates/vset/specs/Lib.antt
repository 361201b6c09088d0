-- The definitions that the contracts of `vset` cite.
pub mod Members
