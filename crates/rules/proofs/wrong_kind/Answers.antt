use mathlib.Core.Bool.{not, ◌||◌}
use lib.Dec.{eqb, ltb}
use Rattle.graph.specs.Rules.{rule5}
use Rattle.graph.specs.File.{byte_at}
use Rattle.rules.proofs.Rows.{ordinal_passed}
use Rattle.rules.proofs.wrong_kind.Goals as goal

pub returns : goal.returns
unfolding rule5
returns c =
    let s = c.args.file.now in
    let k = c.args.k in
    simp (c.byte-cores.ensures.0, c.byte-number.ensures.0, c.order_of-order.ensures.0, c.requires.1)
    (ordinal_passed s k 0 (λ x. not (eqb (byte_at s k 1) x) || (eqb (byte_at s k 2) 0 || ltb 16 (byte_at s k 2))))
