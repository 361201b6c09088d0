use mathlib.Core.Bool.{not, ◌||◌}
use lib.Dec.{eqb, ltb, leb}
use Rattle.graph.specs.Rules.{rule7}
use Rattle.graph.specs.File.{byte_at, word_at, many}
use Rattle.rules.proofs.Rows.{ordinal_passed}
use Rattle.rules.proofs.wrong_vertex.Goals as goal

pub returns : goal.returns
unfolding rule7
returns c =
    let a = c.before.before.before.before.before in
    let s = a.args.file.now in
    let k = a.args.k in
    simp (c.word-wcet.ensures.0, c.byte-kind.ensures.0, c.byte-number.ensures.0, c.order_of-order.ensures.0, a.requires.1, a.requires.2)
    (ordinal_passed s k 1 (λ x. not (eqb (byte_at s k 1) x) || (leb (many s 0) (byte_at s k 2) || ltb 1000000 (word_at s k))))
