-- No public contract of this crate leaves a choice, of the result or of what was lent.
use mathlib.Core.Path.{◌≡◌, refl, sym, ◌∙◌}
use Rattle.outcome.specs.OneOutcome.{OneOutcome}
use Rattle.outcome.specs.Stated.{Stated}
use Rattle.schedule.specs.Tick.{tick_of}
use Rattle.schedule.proofs.Answers.{started-one}
use Rattle.schedule.specs.contracts.start as start
use Rattle.schedule.proofs.start.Reads as start-reads
use Rattle.schedule.specs.contracts.tick as tick
use Rattle.schedule.proofs.tick.Reads as tick-reads
use Rattle.schedule.specs.contracts.tick_in_place as tick-in-place
use Rattle.schedule.specs.contracts.ticked_in_place as ticked-in-place
use Rattle.schedule.specs.contracts.run as run
use Rattle.schedule.proofs.run.Reads as run-reads

pub start-one : OneOutcome start.ended start-reads.Pre start-reads.Post
start-one κs a r r' ws ws' pre p q = (started-one r r' (p ∙ sym q), refl)

pub tick-one : OneOutcome tick.ended tick-reads.Pre tick-reads.Post
tick-one κs a r r' ws ws' pre p q = (p ∙ sym q, refl)

-- what was lent, at the end: nothing of the file and the times, and the list of finish instants
pub run-one : OneOutcome run.ended run-reads.Pre run-reads.Post
run-one κs a r r' ws ws' pre p q = (p.0 ∙ sym q.0, λ i. (tt, (tt, ((p.1 ∙ sym q.1) i, tt))))

-- its clause is said again, and `refl` holds it to the generated one
abbrev pub tick_in_place_stated : Stated tick-in-place.ended (λ M 𝓤. tick-in-place.clauses {M = M} {𝓤 = 𝓤})
tick_in_place_stated = record {
  post = λ κs a r e. (e.0.now ≡ (tick_of a.1.0.now a.0.now).run) × (r ≡ (tick_of a.1.0.now a.0.now).report);
  says = λ M 𝓤 𝓛 mem run κs a g r e. refl;
}

pub tick_in_place-one : OneOutcome tick-in-place.ended (λ κs a. Unit {0}) tick_in_place_stated.post
tick_in_place-one κs a r r' ws ws' pre p q = (p.1 ∙ sym q.1, λ i. ((p.0 ∙ sym q.0) i, ws.1))

abbrev pub ticked_in_place_stated : Stated ticked-in-place.ended (λ M 𝓤. ticked-in-place.clauses {M = M} {𝓤 = 𝓤})
ticked_in_place_stated = record {
  post = λ κs a r e. r ≡ tick_of a.1.0.now a.0;
  says = λ M 𝓤 𝓛 mem run κs a g r e. refl;
}

pub ticked_in_place-one : OneOutcome ticked-in-place.ended (λ κs a. Unit {0}) ticked_in_place_stated.post
ticked_in_place-one κs a r r' ws ws' pre p q = (p ∙ sym q, refl)
