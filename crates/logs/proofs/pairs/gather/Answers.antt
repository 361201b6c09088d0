use mathlib.Core.Path.{◌≡◌}
use mathlib.Core.Logic.{⊎_elim}
use native.Mathlib.Omega.{arith}
use Prim.Native.Nat.{◌-◌, ◌≤◌}
use Rattle.times.specs.Times.{times_of}
use Rattle.remains.specs.Remains.{place}
use Rattle.logs.proofs.Gathering.{gathered_none, gathered-skip, gathered-more}
use borrow.Author.Rules.{rules}
use Rattle.logs.proofs.pairs.gather.Goals as goal
use Rattle.logs.proofs.pairs.gather.Goals.{then-time-gt0, else-time-gt0}
use Rattle.logs.proofs.pairs.gather.Goals.{In-loop-v}

-- what is required of the vertex that is looked at
known : (c : In-loop-v) → let s = c.args in let v = c.loop-v.v in
    (times_of s.times.now v ≤ place s.finishes.now v) × (place s.finishes.now v ≤ 128000000)
known c = c.requires.by_index c.loop-v.v (omega (arith, c.requires.n_bound.1))

pub loop-v-init : goal.loop-v-init
loop-v-init c = gathered_none _ _ _ c.requires.n_bound.2

pub overflow_cast-time : goal.overflow_cast-time
overflow_cast-time c = let k = known (goal.at.overflow_cast-time c).In-loop-v in omega arith

pub overflow_cast-stop : goal.overflow_cast-stop
overflow_cast-stop c = let k = known (goal.at.overflow_cast-stop c).In-loop-v in omega arith

pub overflow_mul-stop : goal.overflow_mul-stop
overflow_mul-stop c = let k = known (goal.at.overflow_mul-stop c).In-loop-v in omega arith

pub overflow_add-stop : goal.overflow_add-stop
overflow_add-stop c = let k = known (goal.at.overflow_add-stop c).In-loop-v in omega arith

pub overflow_add-keys : goal.overflow_add-keys
overflow_add-keys c = let k = known (goal.at.overflow_add-keys c).In-loop-v in omega arith

pub overflow_mul-keys : goal.overflow_mul-keys
overflow_mul-keys c = let k = known (goal.at.overflow_mul-keys c).In-loop-v in omega arith

pub overflow_sub-keys : goal.overflow_sub-keys
overflow_sub-keys c = let k = known (goal.at.overflow_sub-keys c).In-loop-v in omega arith

pub loop-v-preserved : goal.loop-v-preserved
loop-v-preserved c =
    let l = c.loop-v in elim c.if-time-gt0.branch [
      | then-time-gt0 z ↦ rw (z.keys-is, z.m-is) (gathered-more _ _ l.v l.m l.keys l.invariant (omega (arith, c.requires.n_bound.0)) z.if-time-gt0.true (known (goal.at.loop-v-preserved c).In-loop-v).0)
      | else-time-gt0 z ↦ rw (z.keys-is, z.m-is) (gathered-skip _ _ l.v l.m l.keys l.invariant (omega (arith, z.if-time-gt0.false)))
    ]

pub returns : goal.returns
returns c =
    let l = c.loop-v in
    let q : l.v ≡ c.args.n = omega (arith, c.requires.n_bound.1) in
    rw (← q) l.invariant
