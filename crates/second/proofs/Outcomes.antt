-- No public contract of this crate leaves a choice.
use mathlib.Core.Path.{refl}
use Rattle.outcome.specs.OneOutcome.{OneOutcome}
use Rattle.second.proofs.Unique.{second_in_unique, second-of_unique, seconded-one}
use Rattle.second.specs.Seconded.{seconded}
use Rattle.second.specs.contracts.second as second
use Rattle.second.proofs.second.Reads as second_reads
use Rattle.second.specs.contracts.of_graph as of-graph
use Rattle.second.proofs.of_graph.Reads as of-graph-reads

pub second-one : OneOutcome second.ended second_reads.Pre second_reads.Post
second-one κs a r r' ws ws' pre p q = (seconded-one r r' (second-of_unique (seconded r) (seconded r') p q), refl)

pub of-graph-one : OneOutcome of-graph.ended of-graph-reads.Pre of-graph-reads.Post
of-graph-one κs a r r' ws ws' pre p q = (seconded-one r r' (second_in_unique (seconded r) (seconded r') p q), refl)
