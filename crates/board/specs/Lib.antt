pub mod Board
pub mod Lists
