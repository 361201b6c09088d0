use mathlib.Core.Path.{◌≡◌}
use native.Mathlib.Omega.{arith}
use Rattle.rows.proofs.Learning.{learnt_none, learnt_more, learnt_all}
use Rattle.rows.proofs.ancestors.Goals as goal
use Rattle.rows.proofs.ancestors.Goals.{In-loop-j}

pub loop-j-init : goal.loop-j-init
loop-j-init c = λ g T. rw c.requires.t_value (learnt_none T)

pub loop-j-preserved : goal.loop-j-preserved
loop-j-preserved c =
    let l = c.loop-j in
    λ x T. rw c.put.ensures (learnt_more T l.t l.j c.loop-j-test.true (l.invariant x T) c.gather-got.result (rw c.row-own.ensures at c.gather-got.ensures))

pub returns : goal.returns
returns c g T =
    let l = c.loop-j in
    let e : l.j ≡ c.args.n = omega arith in
    learnt_all T _ (rw e at (l.invariant g T))
