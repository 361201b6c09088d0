use Prim.Native.Nat.{◌-◌}
use mathlib.Core.Path.{◌≡◌}
use mathlib.Core.List.{[], ◌∷◌}
use native.Mathlib.Omega.{arith}
use borrow.Author.Rules.{rules}
use Rattle.stg_line.proofs.Laying.{Put, put-long}
use Rattle.stg_text.specs.Canonical.{line_of}
use Rattle.stg_writer.specs.Before.{text_in}
use Rattle.stg_writer.proofs.Lines.{first_fits, rows_none, rows_more, rows-lines, lines_fit}
use Rattle.stg_writer.proofs.text.put_text.Goals as goal
use Rattle.stg_writer.proofs.text.put_text.Goals.{After-put_count-i}

pub put_count-i-requires : goal.put_count-i-requires
put_count-i-requires c = let a = c.args in (search rules, omega (arith, first_fits a.n a.before.now a.wcet.now, c.requires.3))

-- the first line
first-line : (c : After-put_count-i) → Put c.args.out.now 0 c.put_count-i.result c.put_count-i.new.out (line_of ((c.args.n - 2) ∷ []))
first-line c = record { is = omega (arith, c.put_count-i.ensures.0); laid = c.put_count-i.ensures.1 }

pub loop-v-init : goal.loop-v-init
loop-v-init c =
    let a = c.args in
    rows_none a.n a.before.now a.wcet.now a.out.now _ _ (first-line (goal.at.loop-v-init c).After-put_count-i)

pub overflow_cast-wcet : goal.overflow_cast-wcet
overflow_cast-wcet c = omega (arith, c.requires.2 c.loop-v.v (search rules))

pub put_task-next-requires : goal.put_task-next-requires
put_task-next-requires c =
    let l = c.loop-v in
    let P = rows-lines c.args.n c.args.before.now c.args.wcet.now c.args.out.now _ _ (first-line (goal.at.put_task-next-requires c).After-put_count-i) l.v l.i l.out l.invariant in
    let same = put-long _ _ _ _ _ P in
    (search rules, c.requires.2 c.loop-v.v (search rules), rw c.row-set.ensures (omega (arith, P.is, lines_fit c.args.n c.args.before.now c.args.wcet.now l.v (search rules), c.requires.3)))

pub loop-v-preserved : goal.loop-v-preserved
loop-v-preserved c =
    let l = c.loop-v in
    let a = c.args in
    let p = c.put_task-next in
    rows_more a.n a.before.now a.wcet.now _ _ l.v l.i l.out p.result p.new.out l.invariant (rw (← c.row-set.ensures) (record { is = p.ensures.0; laid = p.ensures.1 }))

pub shape_of-out : goal.shape_of-out
shape_of-out c =
    let l = c.loop-v in
    let a = c.args in
    put-long _ _ _ _ _ (rows-lines a.n a.before.now a.wcet.now a.out.now _ _ (first-line (goal.at.shape_of-out c).After-put_count-i) l.v l.i l.out l.invariant)

pub returns : goal.returns
unfolding text_in
returns c =
    let l = c.loop-v in
    let a = c.args in
    let e : l.v ≡ a.n = omega arith in
    let P = rows-lines a.n a.before.now a.wcet.now a.out.now _ _ (first-line (goal.at.returns c).After-put_count-i) l.v l.i l.out l.invariant in
    rw e at P.laid
