-- No public contract of this crate leaves a choice, of the result or of what was lent.
use mathlib.Core.Path.{◌≡◌, refl, sym, ap, ◌∙◌}
use mathlib.Core.List.{List}
use Prim.Native.Nat.{ℕ}
use Rattle.outcome.specs.OneOutcome.{OneOutcome}
use Rattle.outcome.specs.Stated.{Stated}
use Rattle.bounds.proofs.Unique.{bounds_unique, path-of_unique}
use Rattle.second.proofs.Unique.{second-of_unique}
use Rattle.late.proofs.Unique.{late_unique}
use Rattle.enough.proofs.Unique.{enough-of_unique}
use Rattle.gains.proofs.Unique.{gains-of_unique, altered-of_unique}
use Rattle.schedule.specs.Tick.{tick_of}
use Rattle.codes.specs.Coded.{coded_bounds_of, coded_second_of, coded_enough_of, coded_path_of, coded_gains_of, BoundsCoded, SecondCoded, EnoughCoded, PathCoded, GainsCoded, AlteredCoded}
use Rattle.codes.specs.CodedRun.{coded_report_of, coded_late_of, LateCoded}
use Rattle.codes.specs.declared.PlannerBounds.{PlannerBounds}
use Rattle.codes.specs.declared.PlannerSecond.{PlannerSecond}
use Rattle.codes.specs.declared.PlannerEnough.{PlannerEnough}
use Rattle.codes.specs.declared.PlannerCount.{PlannerCount}
use Rattle.codes.specs.declared.PlannerLate.{PlannerLate}
use Rattle.planner.specs.contracts.planner_read as read
use Rattle.planner.proofs.planner_read.Reads as read-reads
use Rattle.planner.specs.contracts.planner_write as write
use Rattle.planner.proofs.planner_write.Reads as write-reads
use Rattle.planner.specs.contracts.planner_bounds as bounds
use Rattle.planner.proofs.planner_bounds.Reads as bounds-reads
use Rattle.planner.specs.contracts.planner_second as second
use Rattle.planner.proofs.planner_second.Reads as second_reads
use Rattle.planner.specs.contracts.planner_enough as enough
use Rattle.planner.proofs.planner_enough.Reads as enough-reads
use Rattle.planner.specs.contracts.planner_path as path
use Rattle.planner.proofs.planner_path.Reads as path-reads
use Rattle.planner.specs.contracts.planner_gains as gains
use Rattle.planner.proofs.planner_gains.Reads as gains-reads
use Rattle.planner.specs.contracts.planner_gains_altered as gains-altered
use Rattle.planner.proofs.planner_gains_altered.Reads as gains-altered-reads
use Rattle.planner.specs.contracts.planner_late as late
use Rattle.planner.proofs.planner_late.Reads as late-reads
use Rattle.planner.specs.contracts.planner_start as start
use Rattle.planner.proofs.planner_start.Reads as start-reads
use Rattle.planner.specs.contracts.planner_tick as tick
use Rattle.planner.proofs.planner_tick.Reads as tick-reads
use Rattle.planner.specs.contracts.planner_tick_in_place as tick-in-place
use Rattle.planner.specs.contracts.planner_run as run
use Rattle.planner.proofs.planner_run.Reads as run-reads
use Rattle.planner.specs.contracts.planner_replay as replay
use Rattle.planner.proofs.planner_replay.Reads as replay-reads
use Rattle.planner.specs.contracts.planner_log as log
use Rattle.planner.proofs.planner_log.Reads as log-reads
use Rattle.planner.specs.contracts.planner_mend as mend
use Rattle.planner.proofs.planner_mend.Reads as mend-reads
use Rattle.planner.specs.contracts.planner_stg_read as stg-read
use Rattle.planner.proofs.planner_stg_read.Reads as stg-read-reads
use Rattle.planner.specs.contracts.planner_stg_write as stg-write
use Rattle.planner.proofs.planner_stg_write.Reads as stg-write-reads

pub planner_read-one : OneOutcome read.ended read-reads.Pre read-reads.Post
planner_read-one κs a r r' ws ws' pre p q = (p ∙ sym q, refl)

-- what was lent, at the end: nothing of the four lists, and the list of out
pub planner_write-one : OneOutcome write.ended write-reads.Pre write-reads.Post
planner_write-one κs a r r' ws ws' pre p q = (p.0 ∙ sym q.0, λ i. (tt, (tt, (tt, (tt, ((p.1 ∙ sym q.1) i, tt))))))

bounds-coded_unique : (s : List ℕ) (r r' : PlannerBounds) → BoundsCoded s r → BoundsCoded s r' → r ≡ r'
bounds-coded_unique s r r' p q = p.coded ∙ ap coded_bounds_of (bounds_unique s p.bounded q.bounded p.of q.of) ∙ sym q.coded

pub planner_bounds-one : OneOutcome bounds.ended bounds-reads.Pre bounds-reads.Post
planner_bounds-one κs a r r' ws ws' pre p q = (bounds-coded_unique _ r r' p q, refl)

path-coded_unique : {s old : List ℕ} {r r' : PlannerCount} {new new' : List ℕ} → PathCoded s old r new → PathCoded s old r' new'
    → (r ≡ r') × (new ≡ new')
path-coded_unique p q = let e = path-of_unique p.of q.of in (p.coded ∙ ap coded_path_of e.0 ∙ sym q.coded, e.1)

pub planner_path-one : OneOutcome path.ended path-reads.Pre path-reads.Post
planner_path-one κs a r r' ws ws' pre p q = let e = path-coded_unique p q in (e.0, λ i. (tt, (e.1 i, tt)))

second-coded_unique : {s : List ℕ} {r r' : PlannerSecond} → SecondCoded s r → SecondCoded s r' → r ≡ r'
second-coded_unique p q = p.coded ∙ ap coded_second_of (second-of_unique p.seconded q.seconded p.of q.of) ∙ sym q.coded

pub planner_second-one : OneOutcome second.ended second_reads.Pre second_reads.Post
planner_second-one κs a r r' ws ws' pre p q = (second-coded_unique p q, refl)

enough-coded_unique : {s : List ℕ} {k d : ℕ} {r r' : PlannerEnough} → EnoughCoded s k d r → EnoughCoded s k d r' → r ≡ r'
enough-coded_unique p q = p.coded ∙ ap coded_enough_of (enough-of_unique p.fewest q.fewest p.of q.of) ∙ sym q.coded

pub planner_enough-one : OneOutcome enough.ended enough-reads.Pre enough-reads.Post
planner_enough-one κs a r r' ws ws' pre p q = (enough-coded_unique p q, refl)

gains-coded_unique : {s old : List ℕ} {r r' : PlannerCount} {new new' : List ℕ} → GainsCoded s old r new → GainsCoded s old r' new'
    → (r ≡ r') × (new ≡ new')
gains-coded_unique p q = let e = gains-of_unique p.of q.of in (p.coded ∙ ap coded_gains_of e.0 ∙ sym q.coded, e.1)

pub planner_gains-one : OneOutcome gains.ended gains-reads.Pre gains-reads.Post
planner_gains-one κs a r r' ws ws' pre p q = let e = gains-coded_unique p q in (e.0, λ i. (tt, (e.1 i, tt)))

altered-coded_unique : {s : List ℕ} {v x : ℕ} {old : List ℕ} {r r' : PlannerCount} {new new' : List ℕ} → AlteredCoded s v x old r new → AlteredCoded s v x old r' new'
    → (r ≡ r') × (new ≡ new')
altered-coded_unique p q = let e = altered-of_unique p.of q.of in (p.coded ∙ ap coded_gains_of e.0 ∙ sym q.coded, e.1)

pub planner_gains-altered-one : OneOutcome gains-altered.ended gains-altered-reads.Pre gains-altered-reads.Post
planner_gains-altered-one κs a r r' ws ws' pre p q = let e = altered-coded_unique p q in (e.0, λ i. (tt, (tt, (tt, (e.1 i, tt)))))

late-coded_unique : {s e : List ℕ} {d : ℕ} {r r' : PlannerLate} → LateCoded s e d r → LateCoded s e d r' → r ≡ r'
late-coded_unique p q = p.coded ∙ ap coded_late_of (late_unique _ _ _ p.told q.told p.of q.of) ∙ sym q.coded

pub planner_late-one : OneOutcome late.ended late-reads.Pre late-reads.Post
planner_late-one κs a r r' ws ws' pre p q = (late-coded_unique p q, refl)

pub planner_start-one : OneOutcome start.ended start-reads.Pre start-reads.Post
planner_start-one κs a r r' ws ws' pre p q = (p ∙ sym q, refl)

pub planner_tick-one : OneOutcome tick.ended tick-reads.Pre tick-reads.Post
planner_tick-one κs a r r' ws ws' pre p q = (p ∙ sym q, refl)

-- what was lent, at the end: nothing of the file and the times, and the list of finish instants
pub planner_run-one : OneOutcome run.ended run-reads.Pre run-reads.Post
planner_run-one κs a r r' ws ws' pre p q = (p.0 ∙ sym q.0, λ i. (tt, (tt, ((p.1 ∙ sym q.1) i, tt))))

-- its clause is said again, and `refl` holds it to the generated one
abbrev pub planner_tick_in_place_stated : Stated tick-in-place.ended (λ M 𝓤. tick-in-place.clauses {M = M} {𝓤 = 𝓤})
planner_tick_in_place_stated = record {
  post = λ κs a r e. (e.0.now ≡ (tick_of a.1.0.now a.0.now).run) × (r ≡ coded_report_of (tick_of a.1.0.now a.0.now).report);
  says = λ M 𝓤 𝓛 mem run κs a g r e. refl;
}

pub planner_tick_in_place-one : OneOutcome tick-in-place.ended (λ κs a. Unit {0}) planner_tick_in_place_stated.post
planner_tick_in_place-one κs a r r' ws ws' pre p q = (p.1 ∙ sym q.1, λ i. ((p.0 ∙ sym q.0) i, ws.1))

pub planner_replay-one : OneOutcome replay.ended replay-reads.Pre replay-reads.Post
planner_replay-one κs a r r' ws ws' pre p q = (p.0 ∙ sym q.0, λ i. (tt, (tt, ((p.1 ∙ sym q.1) i, tt))))

pub planner_log-one : OneOutcome log.ended log-reads.Pre log-reads.Post
planner_log-one κs a r r' ws ws' pre p q = (p.0 ∙ sym q.0, λ i. (tt, (tt, ((p.1 ∙ sym q.1) i, tt))))

pub planner_stg_read-one : OneOutcome stg-read.ended stg-read-reads.Pre stg-read-reads.Post
planner_stg_read-one κs a r r' ws ws' pre p q = (p.0 ∙ sym q.0, λ i. (tt, (tt, (tt, ((p.1 ∙ sym q.1) i, tt)))))

pub planner_stg_write-one : OneOutcome stg-write.ended stg-write-reads.Pre stg-write-reads.Post
planner_stg_write-one κs a r r' ws ws' pre p q = (p.0 ∙ sym q.0, λ i. (tt, ((p.1 ∙ sym q.1) i, tt)))

-- what was lent, at the end: nothing of the file, and the two buffers
pub planner_mend-one : OneOutcome mend.ended mend-reads.Pre mend-reads.Post
planner_mend-one κs a r r' ws ws' pre p q = (p.0 ∙ sym q.0, λ i. (tt, ((p.1 ∙ sym q.1) i, ((p.2 ∙ sym q.2) i, tt))))
