-- The gains over lists. Read in this order. Only contracts of functions for our own layers cite these: what
-- they mean is said with the definitions of `model`.
pub mod Passing
pub mod Gaining
