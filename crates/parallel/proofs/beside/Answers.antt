use mathlib.Core.Path.{◌≡◌}
use Prim.Native.Nat.{◌-◌, ◌≤◌}
use native.Mathlib.Omega.{arith}
use borrow.Author.Rules.{rules}
use Rattle.graph.specs.Model.{as_model}
use Rattle.summary.proofs.Along.{few}
use Rattle.parallel.proofs.Filling.{filled_none, filled_more, filled-all, kind-few, kind-in}
use Rattle.parallel.proofs.beside.Goals as goal
use Rattle.parallel.proofs.beside.Goals.{Start}

small : (c : Start) → c.args.n ≤ 128
small c = omega (arith, few c.requires.weighed.1, c.requires.weighed.1.vertices)

pub of_kinds-words-requires : goal.of_kinds-words-requires
of_kinds-words-requires c = record { n_bound = small c; by_index = kind-few c.requires.weighed.1 c.requires.weighed.2 }

pub descendants-requires : goal.descendants-requires
descendants-requires c = record { weighed = (_, c.requires.weighed.1); t_value = c.requires.t_value }

pub loop-v-init : goal.loop-v-init
loop-v-init c = (small (goal.at.loop-v-init c).Start, λ g T is H. filled_none (as_model g) _ (c.descendants.ensures g T))

pub overflow_cast-kind : goal.overflow_cast-kind
overflow_cast-kind c =
    omega (arith, kind-few c.requires.weighed.1 c.requires.weighed.2 c.loop-v.v c.loop-v-test.true)

pub set_at-same-requires : goal.set_at-same-requires
set_at-same-requires c =
    kind-few c.requires.weighed.1 c.requires.weighed.2 c.loop-v.v c.loop-v-test.true

pub loop-v-preserved : goal.loop-v-preserved
unfolding as_model
loop-v-preserved c =
    let l = c.loop-v in (
      l.invariant.0,
      λ g T is H. rw c.put.ensures
          (filled_more (as_model g) l.t _ l.v (omega (arith, c.loop-v-test.true, T.vertices)) (few T) (l.invariant.1 g T is H) H c.set_at-same.result c.apart.result
          (kind-in T is c.of_kinds-words.result c.of_kinds-words.ensures l.v c.loop-v-test.true c.set_at-same.result c.set_at-same.ensures)
          (rw (c.row-above.ensures, c.row-below.ensures) at c.apart.ensures)),
    )

pub returns : goal.returns
unfolding as_model
returns c g T is H =
    let l = c.loop-v in
    let e : l.v ≡ g.n = omega (arith, T.vertices) in
    filled-all (as_model g) _ (rw e at (l.invariant.1 g T is H))
