use mathlib.Core.Path.{◌≡◌, ◌∙◌}
use native.Mathlib.Omega.{arith}
use Rattle.graph.specs.File.{column}
use Rattle.model.proofs.Tables.{padded-none, padded-more}
use Rattle.reader.proofs.lists.column_of.Goals as goal

pub loop-i-init : goal.loop-i-init
loop-i-init g c = c.requires.a_value ∙ padded-none g.row.N _

pub loop-i-preserved : goal.loop-i-preserved
unfolding column
loop-i-preserved g c =
    let l = c.loop-i in
    simp (c.byte.ensures.0, l.invariant) (padded-more g.row.N _ l.i (omega arith))

pub returns : goal.returns
returns g c =
    let e : c.loop-i.i ≡ c.args.n = omega arith in
    rw (← e) c.loop-i.invariant
