use native.Mathlib.Omega.{arith}
use Rattle.gaining.proofs.Tops.{top-past}
use Rattle.gaining.proofs.passing.beyond.Goals as goal

pub overflow_cast-order : goal.overflow_cast-order
overflow_cast-order c = omega (arith, c.requires.by_index c.args.p c.requires.p_lt_n.0)

pub returns-then-top-order : goal.returns-then-top-order
returns-then-top-order c = c.anew.ensures

pub returns : goal.returns
returns c = top-past _ _ _ _ _ c.if-top-order.false c.requires.top_from
