use mathlib.Core.Path.{sym}
use Rattle.graph.specs.Rules.{rule3}
use Rattle.graph.specs.File.{order}
use Rattle.rules.proofs.Rows.{any-above}
use Rattle.rules.proofs.late.Goals as goal

pub returns : goal.returns
unfolding rule3
returns c =
    let a = c.args in
    rw (c.order_of.ensures.0, c.requires.1) (sym (any-above (order a.file.now) (order a.file.now a.k) a.k))
