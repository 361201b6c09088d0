use mathlib.Core.Path.{sym, ◌∙◌}
use native.Mathlib.Omega.{arith}
use Rattle.model.proofs.Places.{count-le}
use Rattle.vset.specs.Members.{is_in}
use Rattle.stg_line.proofs.Laying.{task-long, those_count}
use Rattle.stg_line.proofs.task_length.Goals as goal

pub width-requires-3 : goal.width-requires-3
width-requires-3 c = omega (arith, c.size-count.ensures, count-le (is_in c.args.before) 128)

pub returns : goal.returns
returns c =
    let a = c.args in
    let many = c.size-count.ensures ∙ sym (those_count (is_in a.before) 128) in
    let w = rw many at c.width-3.ensures.0 in
    (omega (arith, c.width.ensures.0, c.width-2.ensures.0, w, c.members_length.ensures.0, task-long a.v a.time (is_in a.before)), omega (arith, c.width.ensures.2, c.width-2.ensures.2, c.width-3.ensures.2, c.members_length.ensures.1))
