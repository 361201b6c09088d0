use Rattle.stg.proofs.Reading.{laid-all}
use Rattle.stg.proofs.listed.Goals as goal

pub returns : goal.returns
returns c =
    laid-all c.args.text.now c.in_ok-n.n _ _ (rw c.in_ok-n.was at c.lay_out.ensures) _ c.all_edges-edges.result c.all_edges-edges.ensures
