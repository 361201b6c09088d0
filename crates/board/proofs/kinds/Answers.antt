use Rattle.std.proofs.Common.{◌∙◌, arith}
use Rattle.model.proofs.Tables.{padded-none, padded-more}
use Rattle.board.specs.Lists.{kind_at}
use Rattle.board.proofs.Filling.{filled}
use Rattle.board.proofs.kinds.Goals as goal

pub loop-v-init : goal.loop-v-init
loop-v-init c = padded-none 128 (kind_at c.args.t.now c.args.names)

pub loop-v-preserved : goal.loop-v-preserved
loop-v-preserved c =
    let a = c.args in
    rw (c.loop-v.invariant, c.kind_at.ensures) (padded-more 128 (kind_at a.t.now a.names) c.loop-v.v c.loop-v-test.true)

pub returns : goal.returns
returns c =
    let a = c.args in
    c.loop-v.invariant ∙ filled (kind_at a.t.now a.names) 128 c.loop-v.v (omega (arith, c.loop-v.auto.v-end, c.loop-v-test.false))
