-- No public contract of this crate leaves a choice.
use mathlib.Core.Path.{refl, sym, ◌∙◌}
use mathlib.Core.List.{[]}
use Rattle.outcome.specs.OneOutcome.{OneOutcome}
use Rattle.graph.specs.declared.Graph.{Graph}
use Rattle.times.specs.contracts.judge as judge
use Rattle.times.proofs.judge.Reads as judge-reads
use Rattle.times.specs.contracts.begun as begun
use Rattle.times.proofs.begun.Reads as begun-reads

-- the count and the WCETs are those of some graph
pub judge-one : OneOutcome judge.ended judge-reads.Pre judge-reads.Post
judge-one κs a r r' ws ws' pre p q =
    let g : Graph = record { kinds = 0; n = a.0; edges = 0; cores = []; kind = []; wcet = a.1.0.now; edge = [] } in
    (p g refl refl ∙ sym (q g refl refl), refl)

pub begun-one : OneOutcome begun.ended begun-reads.Pre begun-reads.Post
begun-one κs a r r' ws ws' pre p q = let g = pre.0.0 in let e = pre.0.1 in (p g e ∙ sym (q g e), refl)
