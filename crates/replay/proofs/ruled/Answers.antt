use mathlib.Core.Path.{refl, sym, ◌∙◌}
use native.Mathlib.Omega.{arith}
use Prim.Native.Nat.{◌≤◌}
use Rattle.model.proofs.Sums.{largest-within}
use Rattle.graph.specs.File.{records}
use Rattle.graph.specs.Model.{as_model}
use Rattle.recorded.specs.Log.{instant_at}
use Rattle.recorded.specs.Recorded.{last_instant}
use Rattle.recorded.specs.Rules.{rule22}
use Rattle.recorded.proofs.Judging.{Off}
use Rattle.recorded.proofs.Records.{fine-at}
use Rattle.formed.proofs.Passing.{few-records}
use Rattle.formed.proofs.Clocks.{clock_last}
use Rattle.frames.specs.Frames.{LentOf, FaultsBy, FirstIn}
use Rattle.replay.proofs.Rows.{next_19, given_19, next_20, given_20, next_21, given_21, next_22, given_22, given_15, all_passed}
use Rattle.replay.proofs.ruled.Goals as goal
use Rattle.replay.proofs.ruled.Goals.{After-first_faults-found, In_default, In_default-crowded, In_default-first_above, In_default-idle, Start}

few : (s : Start) → records s.args.log.now ≤ 8192
few s = few-records s.args.log.now s.requires.in_form.0.right_length

late : (s : Start) → last_instant s.args.log.now ≤ 128000000
unfolding last_instant
late s = largest-within (instant_at s.args.log.now) 128000000 (records s.args.log.now) (λ i b. (fine-at s.requires.in_form.0 i b).early)

-- what is lent is of its own graph
lent_of : (s : Start) → LentOf s.args.laid.now.graph s.args.laid.now
lent_of s = let U = s.requires.usable in record { accepted = U.accepted; n_is = refl; cores_are = refl; kind_is = refl; edges_are = refl; starts_are = U.along.starts }

-- what the pass found
found : (f : After-first_faults-found) → FaultsBy (as_model f.args.laid.now.graph) f.args.log.now (records f.args.log.now) f.first_faults-found.result
found f = f.first_faults-found.ensures _ (lent_of (goal.at.After-first_faults-found f).Start)

-- 22 was looked for up to the last instant
idle : (f : After-first_faults-found) → FirstIn (rule22 (as_model f.args.laid.now.graph) f.args.log.now) (last_instant f.args.log.now) f.first_faults-found.result.idle
idle f = rw (clock_last f.requires.in_form.0 f.requires.usable.accepted.few_vertices) (found f).idle

-- row after row that does not hold
off-19 : (e : In_default) → Off (as_model e.args.laid.now.graph) e.args.log.now e.args.room 4
off-19 e = next_19 e.args.laid.now.graph e.args.log.now e.args.room e.requires.in_form.0 (rw e.in_default.is at (found (goal.at.In_default e).After-first_faults-found).early)

off-20 : (e : In_default-crowded) → Off (as_model e.args.laid.now.graph) e.args.log.now e.args.room 5
off-20 e = next_20 e.args.laid.now.graph e.args.log.now e.args.room (off-19 (goal.at.In_default-crowded e).In_default) (rw e.in_default-crowded.is at (found (goal.at.In_default-crowded e).After-first_faults-found).crowded)

off-21 : (e : In_default-first_above) → Off (as_model e.args.laid.now.graph) e.args.log.now e.args.room 6
off-21 e =
    next_21 e.args.laid.now.graph e.args.log.now e.args.room e.args.totals.now e.requires.in_form.1 (off-20 (goal.at.In_default-first_above e).In_default-crowded) (rw e.in_default-first_above.is at e.first_above.ensures)

off-22 : (e : In_default-idle) → Off (as_model e.args.laid.now.graph) e.args.log.now e.args.room 7
off-22 e =
    next_22 e.args.laid.now.graph e.args.log.now e.args.room (off-21 (goal.at.In_default-idle e).In_default-first_above) (rw e.in_default-idle.is at (idle (goal.at.In_default-idle e).After-first_faults-found))

pub first_faults-found-requires : goal.first_faults-found-requires
first_faults-found-requires c = record { lent_of = (_, lent_of (goal.at.first_faults-found-requires c).Start, c.requires.usable.rows); in_form = (c.requires.in_form.0, c.requires.in_form.2) }

pub overflow_cast-k : goal.overflow_cast-k
overflow_cast-k c = let f = rw c.in-Some.is at (found (goal.at.overflow_cast-k c).After-first_faults-found).early in omega (arith, f.1, few (goal.at.overflow_cast-k c).Start)

pub returns-in-Some : goal.returns-in-Some
returns-in-Some c =
    c.refused.ensures ∙ sym (given_19 c.args.laid.now.graph c.args.log.now c.args.room c.requires.in_form.0 _ (rw c.in-Some.is at (found (goal.at.returns-in-Some c).After-first_faults-found).early))

pub overflow_cast-k-in-Some-crowded : goal.overflow_cast-k-in-Some-crowded
overflow_cast-k-in-Some-crowded c = let f = rw c.in-Some-crowded.is at (found (goal.at.overflow_cast-k-in-Some-crowded c).After-first_faults-found).crowded in omega (arith, f.1, few (goal.at.overflow_cast-k-in-Some-crowded c).Start)

pub returns-in-Some-crowded : goal.returns-in-Some-crowded
returns-in-Some-crowded c =
    c.refused-in-Some-crowded.ensures ∙ sym (given_20 c.args.laid.now.graph c.args.log.now c.args.room (off-19 (goal.at.returns-in-Some-crowded c).In_default) _ (rw c.in-Some-crowded.is at (found (goal.at.returns-in-Some-crowded c).After-first_faults-found).crowded))

pub returns-in-Some-first_above : goal.returns-in-Some-first_above
returns-in-Some-first_above c =
    c.refused-in-Some-first_above.ensures ∙ sym (given_21 c.args.laid.now.graph c.args.log.now c.args.room c.args.totals.now c.requires.in_form.1 (off-20 (goal.at.returns-in-Some-first_above c).In_default-crowded) _ (rw c.in-Some-first_above.is at c.first_above.ensures))

pub overflow_cast-t : goal.overflow_cast-t
overflow_cast-t c = let f = rw c.in-Some-idle.is at (idle (goal.at.overflow_cast-t c).After-first_faults-found) in omega (arith, f.1, late (goal.at.overflow_cast-t c).Start)

pub returns-in-Some-idle : goal.returns-in-Some-idle
returns-in-Some-idle c =
    c.refused-in-Some-idle.ensures ∙ sym (given_22 c.args.laid.now.graph c.args.log.now c.args.room (off-21 (goal.at.returns-in-Some-idle c).In_default-first_above) _ (rw c.in-Some-idle.is at (idle (goal.at.returns-in-Some-idle c).After-first_faults-found)))

pub returns-then-room-g : goal.returns-then-room-g
returns-then-room-g c =
    rw c.whole.ensures (sym (given_15 c.args.laid.now.graph c.args.log.now c.args.room (off-22 (goal.at.returns-then-room-g c).In_default-idle) c.if-room-g.true))

pub returns : goal.returns
returns c =
    sym (all_passed c.args.laid.now.graph c.args.log.now c.args.room (off-22 (goal.at.returns c).In_default-idle) c.if-room-g.false)
