use Rattle.std.proofs.Common.{◌∙◌, arith}
use Rattle.model.proofs.Tables.{padded-none, padded-more}
use Rattle.board.specs.Lists.{cores_at_of}
use Rattle.board.proofs.Filling.{filled}
use Rattle.board.proofs.cores.Goals as goal

pub loop-k-init : goal.loop-k-init
loop-k-init c = padded-none 10 (cores_at_of c.args.t.now c.args.names)

pub loop-k-preserved : goal.loop-k-preserved
loop-k-preserved c =
    let a = c.args in
    rw (c.loop-k.invariant, c.cores_at.ensures) (padded-more 10 (cores_at_of a.t.now a.names) c.loop-k.k c.loop-k-test.true)

pub returns : goal.returns
returns c =
    let a = c.args in
    c.loop-k.invariant ∙ filled (cores_at_of a.t.now a.names) 10 c.loop-k.k (omega (arith, c.loop-k.auto.k-end, c.loop-k-test.false))
