use Rattle.recorded.specs.Log.{is_stop}
use Rattle.formed.proofs.stops.Goals as goal

pub returns : goal.returns
unfolding is_stop
returns c = simp c.byte.ensures.0
