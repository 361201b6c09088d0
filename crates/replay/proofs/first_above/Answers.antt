use borrow.Author.Count.{below_more}
use borrow.Author.Tests.{lt-ltb, le-ltb}
use borrow.Author.Rules.{rules}
use Rattle.model.proofs.Places.{first-at, first-none}
use mathlib.Core.Path.{◌≡◌}
use native.Mathlib.Omega.{arith}
use Rattle.replay.specs.Steps.{above}
use Rattle.replay.proofs.first_above.Goals as goal

pub returns-then-wcet-v : goal.returns-then-wcet-v
unfolding above
returns-then-wcet-v c =
    (first-at _ _ _ (search rules) c.loop-v.invariant (lt-ltb _ _ c.if-wcet-v.true), search rules)

pub loop-v-preserved : goal.loop-v-preserved
unfolding above
loop-v-preserved c = below_more _ _ c.loop-v.invariant (le-ltb _ _ c.if-wcet-v.false)

pub returns : goal.returns
returns c =
    let l = c.loop-v in
    let e : l.v ≡ c.args.n = omega arith in
    first-none _ _ (λ u h. l.invariant u (omega arith))
