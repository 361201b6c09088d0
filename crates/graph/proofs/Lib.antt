-- Laws of the file and its graph. The layers above cite `Accepted`, and of `Judging` what an answer means: `none-holds` and `rightly`.
pub mod Judging
pub mod Orders
pub mod Accepted
pub mod Edges
pub mod Answers
pub mod Outcomes
