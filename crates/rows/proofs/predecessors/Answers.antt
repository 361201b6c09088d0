use mathlib.Core.Path.{ap₂, ◌∙◌}
use Prim.Native.Nat.{ℕ}
use Rattle.sets.specs.Sets.{joined}
use Rattle.rows.proofs.Filling.{none_yet, one_more}
use Rattle.rows.proofs.predecessors.Goals as goal
use Rattle.rows.proofs.predecessors.Goals.{In-loop-i}

pub loop-i-init : goal.loop-i-init
loop-i-init c = rw c.requires.t_value (none_yet _)

pub loop-i-preserved : goal.loop-i-preserved
loop-i-preserved c =
    let l = c.loop-i in
    let e = c.join.ensures ∙ ap₂ (λ (a b : ℕ). joined l.t a b) c.to-v.ensures c.from-u.ensures in
    let k = c.requires.by_index l.i c.loop-i-test.true in
    rw e (one_more _ l.t l.i k.0 k.1 l.invariant)
