use mathlib.Core.Path.{sym, ap, ◌∙◌}
use Rattle.std.specs.Prelude.{Ok}
use Rattle.std.proofs.Common.{arith}
use Rattle.board.specs.Board.{flawed_by}
use Rattle.board.proofs.Passing.{line-worded, line-wordless, reading_none, reading_ends, reading_more, reading_stops}
use Rattle.board.proofs.lines.Goals.{then-is_word+in_default, else-is_word}
use Rattle.board.proofs.lines.Goals as goal

pub loop-at-init : goal.loop-at-init
loop-at-init c = rw c.nameless-names.ensures (reading_none c.args.t.now)

pub loop-at-smaller : goal.loop-at-smaller
loop-at-smaller c = omega (arith, c.next-at.ensures)

pub loop-at-preserved : goal.loop-at-preserved
loop-at-preserved c =
    let more = reading_more c.args.t.now c.loop-at.at c.loop-at.names c.loop-at.invariant c.loop-at-test.true in
    elim c.if-is_word.branch [
      | then-is_word+in_default w ↦
          more _
          (ap Ok w.names-is
          ∙ ap (flawed_by w.line.new.names) (sym w.in_default.is)
          ∙ w.line.ensures
          ∙ line-worded _ _ _ _ c.until-first.ensures _ c.is_word.ensures w.if-is_word.true)
          _ c.next-at.ensures
      | else-is_word w ↦ more _ (ap Ok w.names-is ∙ line-wordless _ _ _ _ c.until-first.ensures _ c.is_word.ensures w.if-is_word.false) _ c.next-at.ensures
    ]

pub returns-in-Err : goal.returns-in-Err
returns-in-Err c =
    reading_stops c.args.t.now c.loop-at.at c.loop-at.names c.loop-at.invariant c.loop-at-test.true _
    (ap (flawed_by c.line.new.names) (sym c.in-Err.is)
    ∙ c.line.ensures
    ∙ line-worded _ _ _ _ c.until-first.ensures _ c.is_word.ensures c.if-is_word.true)

pub returns : goal.returns
returns c =
    reading_ends c.args.t.now c.loop-at.at c.loop-at.names c.loop-at.invariant c.loop-at-test.false
