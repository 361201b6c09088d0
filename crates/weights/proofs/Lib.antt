-- Lists of weights:
pub mod Filled
-- The sum over the kinds:
pub mod Volumes
-- The kinds that a vertex has, and the most cores of them:
pub mod Used
-- What each public contract leaves open: nothing.
pub mod Outcomes
