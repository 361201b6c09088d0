-- The public contract of this crate leaves no choice of what was lent.
use mathlib.Core.Path.{refl}
use Rattle.outcome.specs.OneOutcome.{OneOutcome}
use Rattle.sets.proofs.Tables.{holds_unique}
use Rattle.parallel.specs.contracts.beside as beside
use Rattle.parallel.proofs.beside.Reads as beside-reads

pub beside-one : OneOutcome beside.ended beside-reads.Pre beside-reads.Post
beside-one κs a r r' ws ws' pre p q =
    let e = holds_unique (p pre.0.0 pre.0.1 pre.0.2 pre.0.3) (q pre.0.0 pre.0.1 pre.0.2 pre.0.3) in
    (refl, λ i. (tt, (tt, (tt, (tt, (tt, (tt, (e i, tt))))))))
