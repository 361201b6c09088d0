use Rattle.std.specs.Prelude.{Ok}
use mathlib.Core.Path.{◌≡◌, refl}
use Prim.Native.Nat.{ℕ, ◌/◌, ◌<◌}
use native.Mathlib.Omega.{arith}
use Rattle.model.specs.Bounds.{PARTS, vol, volume, NewB1}
use Rattle.graph.specs.declared.Graph.{Graph}
use Rattle.graph.specs.Model.{as_model}
use Rattle.bounds.proofs.Weighing.{small-stages}
use Rattle.late.proofs.Answers.{told-at-once, told_by_run, above}
use Rattle.late.specs.Lateness.{lateness}
use Rattle.late.proofs.decided.Goals as goal
use Rattle.late.proofs.decided.Goals.{then-least-d+else-bound-d, else-least-d}
use Rattle.late.proofs.decided.Goals.{After-volume-shares, Joined-least-d, Start}

-- the graph that is laid
abbrev given : Start → Graph
given s = s.args.laid.now.graph

pub volume-shares-requires : goal.volume-shares-requires
volume-shares-requires c = small-stages c.requires.usable.accepted

-- what the code adds up is the volume
shares : (c : After-volume-shares) → c.volume-shares.result.0 ≡ volume (as_model (given (goal.at.After-volume-shares c).Start))
unfolding vol volume as_model
shares c = c.volume-shares.ensures.result_value

pub new_of-new-requires : goal.new_of-new-requires
new_of-new-requires c = let p = c.requires in record { usable = p.usable; shares_value = (shares (goal.at.new_of-new-requires c).After-volume-shares, c.volume-shares.ensures.result_bound) }

pub returns-then-bound-d : goal.returns-then-bound-d
returns-then-bound-d c =
    let p = c.requires in
    told-at-once (given (goal.at.returns-then-bound-d c).Start) p.usable.accepted c.args.times.now p.fitting c.args.d c.new_of-new.result.0 c.new_of-new.ensures _ (omega (arith, c.if-bound-d.true, c.ticks-bound.ensures)) refl refl

-- where the run is played, NEW-B-1 is above d
later : (c : Joined-least-d) → (B : ℕ) × NewB1 (as_model (given (goal.at.Joined-least-d c).Start)) B × (c.args.d < B / PARTS)
later c =
    elim c.if-least-d.branch [
      | then-least-d+else-bound-d w ↦ (w.new_of-new.result.0, w.new_of-new.ensures, omega (arith, w.ticks-bound.ensures, w.if-bound-d.false))
      | else-least-d w ↦ above (given (goal.at.Joined-least-d c).Start) c.requires.usable.accepted c.args.times.now c.requires.fitting c.args.d (omega (arith, shares (goal.at.Joined-least-d c).After-volume-shares, c.ticks-least.ensures, w.if-least-d.false))
    ]

pub returns : goal.returns
returns c =
    let p = c.requires in
    let x = c.looked_up.ensures in
    let b = later (goal.at.returns c).Joined-least-d in
    told_by_run (given (goal.at.returns c).Start) p.usable.accepted c.args.times.now p.fitting c.args.d b.0 b.1 (lateness (Ok c.looked_up.result)) b.2 x.0 x.1
