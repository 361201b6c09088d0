use mathlib.Core.Path.{◌∙◌}
use lib.ListN.{length}
use Rattle.stg.proofs.Reading.{too_long, at-fault, handed_answer, handed_room}
use Rattle.stg.proofs.read.Goals as goal

pub returns-then-text-gt65536 : goal.returns-then-text-gt65536
returns-then-text-gt65536 c =
    let a = c.args in
    let G = too_long a.text.now a.cores.now a.kinds.now a.out.now c.if-text-gt65536.true in
    (rw c.whole.ensures G.answer, G.left)

pub returns-in-Err : goal.returns-in-Err
returns-in-Err c =
    let a = c.args in
    let G = at-fault a.text.now a.cores.now a.kinds.now a.out.now c.in-Err.fault (rw c.in-Err.is at c.listed.ensures) in
    (G.answer, G.left)

pub returns-in-Ok : goal.returns-in-Ok
returns-in-Ok c =
    let a = c.args in
    let G = rw c.in-Ok.is at c.listed.ensures in
    let w = c.write.ensures in
    (w.0 ∙ handed_answer a.text.now a.cores.now a.kinds.now a.out.now c.in-Ok.found _ _ G (length a.out.now), w.1 ∙ handed_room a.text.now a.cores.now a.kinds.now a.out.now c.in-Ok.found _ _ G)
