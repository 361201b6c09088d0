use Rattle.recorded.specs.Log.{instant_at}
use Rattle.formed.specs.Passing.{fault_by}
use Rattle.formed.proofs.at_fault.Goals as goal

pub returns : goal.returns
unfolding fault_by instant_at
returns c =
    simp (
      c.word.ensures.0,
      c.key.ensures.0,
      c.byte-3.ensures.0,
      c.byte-2.ensures.0,
      c.byte.ensures.0,
      c.stops-stop.ensures,
      c.starts-start.ensures,
    )
