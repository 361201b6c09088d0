use Rattle.summary.proofs.Renewing.{tables, ends_touched, starts_touched}
use Rattle.summary.proofs.altered.Goals as goal

pub ending-requires : goal.ending-requires
ending-requires c =
    let p = c.requires in
    let T = p.1.weighed in
    (p.0, T, ends_touched p.1 _ (c.ahead-after.ensures p.0 _ T) c.clear.ensures)

pub starting-requires : goal.starting-requires
starting-requires c =
    let p = c.requires in
    let T = p.1.weighed in
    (p.0, T, starts_touched p.1 _ (c.behind-before.ensures p.0 _ T))

pub returns : goal.returns
returns c g A =
    let T = A.weighed in
    tables (c.ending.ensures g T (ends_touched A _ (c.ahead-after.ensures g _ T) c.clear.ensures))
    (c.starting.ensures g T (starts_touched A _ (c.behind-before.ensures g _ T)))
