use Prim.Native.Nat.{ℕ}
use mathlib.Core.Path.{◌≡◌, sym, ap, ◌∙◌}
use mathlib.Core.List.{List}
use native.Mathlib.Omega.{arith}
use lib.ListN.{length}
use borrow.Author.Rules.{rules}
use Rattle.stg_writer.specs.Before.{text_in}
use Rattle.stg_writer.proofs.Lines.{lines_none, lines_long, first-few}
use Rattle.stg_writer.proofs.text.text_length.Goals as goal

pub loop-v-init : goal.loop-v-init
loop-v-init c = let a = c.args in (c.count_length-size.ensures ∙ ap (λ (z : List ℕ). length z) (sym (lines_none a.n a.before.now a.wcet.now)), omega (arith, c.count_length-size.ensures, first-few a.n a.before.now a.wcet.now (search rules)))

pub overflow_cast-wcet : goal.overflow_cast-wcet
overflow_cast-wcet c = omega (arith, c.requires.2 c.loop-v.v (search rules))

pub task_length-more-requires : goal.task_length-more-requires
task_length-more-requires c = (search rules, c.requires.2 c.loop-v.v (search rules))

pub overflow_add-size : goal.overflow_add-size
overflow_add-size c = let l = c.loop-v in omega (arith, l.invariant.1, c.task_length-more.ensures.1)

pub loop-v-preserved : goal.loop-v-preserved
loop-v-preserved c =
    let l = c.loop-v in
    let a = c.args in
    let k = rw c.row-set.ensures at c.task_length-more.ensures.0 in
    (omega (arith, l.invariant.0, k, lines_long a.n a.before.now a.wcet.now l.v), omega (arith, l.invariant.1, c.task_length-more.ensures.1))

pub returns : goal.returns
unfolding text_in
returns c =
    let l = c.loop-v in
    let e : l.v ≡ c.args.n = omega arith in
    rw e at l.invariant.0
