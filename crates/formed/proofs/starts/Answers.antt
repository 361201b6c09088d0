use Rattle.recorded.specs.Log.{is_start}
use Rattle.formed.proofs.starts.Goals as goal

pub returns : goal.returns
unfolding is_start
returns c = simp c.byte.ensures.0
