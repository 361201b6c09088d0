use Rattle.summary.proofs.Renewing.{tables, ends-all, starts-all}
use Rattle.summary.proofs.afresh.Goals as goal

pub ending-requires : goal.ending-requires
ending-requires c = let p = c.requires in (p.0, p.1, ends-all p.1)

pub starting-requires : goal.starting-requires
starting-requires c = let p = c.requires in (p.0, p.1, starts-all p.1)

pub returns : goal.returns
returns c g T = tables (c.ending.ensures g T (ends-all T)) (c.starting.ensures g T (starts-all T))
