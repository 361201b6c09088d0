use mathlib.Core.Path.{◌≡◌}
use native.Mathlib.Omega.{arith}
use Rattle.graph.specs.File.{records}
use Rattle.records.proofs.Passing.{all_passed}
use Rattle.records.proofs.count_all.Goals as goal

pub loop-k-init : goal.loop-k-init
loop-k-init c = c.start-p.ensures _

pub loop-k-preserved : goal.loop-k-preserved
loop-k-preserved c = c.pass-p.ensures

pub returns : goal.returns
returns c =
    let s = c.args.file.now in
    let e : c.before.loop-k.k ≡ records s = omega arith in
    all_passed s c.before.loop-k.p (rw e at c.before.loop-k.invariant)
