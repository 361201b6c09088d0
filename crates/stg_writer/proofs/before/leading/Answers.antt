use mathlib.Core.Path.{◌≡◌}
use native.Mathlib.Omega.{arith}
use borrow.Author.Rules.{rules}
use Rattle.stg_writer.proofs.Gathering.{leading_none, leading-more}
use Rattle.stg_writer.proofs.before.leading.Goals as goal

pub loop-i-init : goal.loop-i-init
loop-i-init c = leading_none c.args.edge.now c.none-some.ensures

pub with-some-requires : goal.with-some-requires
with-some-requires c = rw c.from.ensures (c.requires.by_index c.loop-i.i (search rules))

pub loop-i-preserved : goal.loop-i-preserved
loop-i-preserved c = leading-more c.args.edge.now c.loop-i.i _ _ _ c.loop-i.invariant c.from.ensures c.with-some.ensures

pub returns : goal.returns
returns c =
    let l = c.loop-i in
    let e : l.i ≡ c.args.edges = omega arith in
    rw (← e) l.invariant
