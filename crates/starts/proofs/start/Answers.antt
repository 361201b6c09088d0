use native.Mathlib.Omega.{arith}
use borrow.Author.Tests.{le-leb, lt-leb}
use Rattle.starts.proofs.Together.{start-in, start-stops, start_passed}
use Rattle.starts.proofs.start.Goals as goal

pub returns-then-u-from : goal.returns-then-u-from
returns-then-u-from c =
    let a = c.args in
    let l = c.before.before.before.before.loop-at in
    start-stops a.edge.now a.edges a.u l.at (omega arith) l.invariant (le-leb _ _ (rw c.before.from.ensures at c.if-u-from.true))

pub loop-at-preserved : goal.loop-at-preserved
loop-at-preserved c =
    let a = c.args in
    let l = c.before.before.before.before.loop-at in
    start_passed a.edge.now a.edges a.u l.at (omega arith) l.invariant (lt-leb _ _ (rw c.before.from.ensures at c.if-u-from.false))

pub returns : goal.returns
returns c =
    let a = c.args in
    let l = c.before.loop-at in
    omega (arith, l.invariant, start-in a.edge.now a.edges a.u)
