-- What has to be believed of a run record, and how a graph's lists are lent.
pub mod Report
pub mod Run
pub mod Suits
pub mod Lists
