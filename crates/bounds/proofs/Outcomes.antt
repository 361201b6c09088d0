-- No public contract of this crate leaves a choice, of the result or of what was lent.
use Rattle.std.specs.Prelude.{Ok}
use mathlib.Core.Path.{refl, ap}
use Rattle.outcome.specs.OneOutcome.{OneOutcome}
use Rattle.model.proofs.Longest.{new_b_1_unique}
use Rattle.bounds.proofs.Unique.{bounded-one, figures_unique, bounds_unique, path_in_unique, path-of_unique}
use Rattle.bounds.specs.Bounded.{Bounded, bounded}
use Rattle.bounds.specs.contracts.bounds as bounds
use Rattle.bounds.proofs.bounds.Reads as bounds-reads
use Rattle.bounds.specs.contracts.path as path
use Rattle.bounds.proofs.path.Reads as path-reads
use Rattle.bounds.specs.contracts.path_into as path-into
use Rattle.bounds.proofs.path_into.Reads as path-into-reads
use Rattle.bounds.specs.contracts.figures as figures
use Rattle.bounds.proofs.figures.Reads as figures-reads
use Rattle.bounds.specs.contracts.new_of as new-of
use Rattle.bounds.proofs.new_of.Reads as new-of-reads

pub bounds-one : OneOutcome bounds.ended bounds-reads.Pre bounds-reads.Post
bounds-one κs a r r' ws ws' pre p q = (bounded-one r r' (bounds_unique _ (bounded r) (bounded r') p q), refl)

-- ws is what is lent, at the end: nothing of the file, and the list of out
pub path-one : OneOutcome path.ended path-reads.Pre path-reads.Post
path-one κs a r r' ws ws' pre p q = let e = path-of_unique p q in (e.0, λ i. (tt, (e.1 i, tt)))

pub path_into_one : OneOutcome path-into.ended path-into-reads.Pre path-into-reads.Post
path_into_one κs a r r' ws ws' pre p q = let e = path_in_unique p q in (e.0, λ i. (tt, (e.1 i, tt)))

pub figures-one : OneOutcome figures.ended figures-reads.Pre figures-reads.Post
figures-one κs a r r' ws ws' pre p q =
    let e = figures_unique (bounded (Ok r)) (bounded (Ok r')) refl refl p q in
    (ap (λ (t : Bounded). record { old = t.old; new = t.new; ticks = t.ticks }) e, refl)

pub new-of-one : OneOutcome new-of.ended new-of-reads.Pre new-of-reads.Post
new-of-one κs a r r' ws ws' pre p q = let e = new_b_1_unique r.0 r'.0 p q in (λ i. record { 0 = e i }, refl)
