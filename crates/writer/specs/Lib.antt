-- The lists that the writer takes, the file that it writes, and what it answers. Read in this order; `Image` is for private contracts alone.
pub mod Wrote
pub mod Lists
pub mod Write
pub mod RoundTrip
pub mod Image
