-- What passes each place, and what is left without a vertex's weight:
pub mod Tops
pub mod Lefts
-- The gains:
pub mod Gaining
-- The lists of an accepted graph, and one WCET stored:
pub mod Accepted
-- What the public contract leaves open: nothing.
pub mod Outcomes
-- The gain as a function that computes:
pub mod Computed
