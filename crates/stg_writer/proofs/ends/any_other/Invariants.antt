use mathlib.Core.Path.{◌≡◌}
use mathlib.Core.Bool.{false}
use Rattle.model.specs.Places.{any}
use Rattle.stg_writer.specs.Before.{other_end_of}
use Rattle.stg_writer.proofs.ends.any_other.Given as goal

abbrev pub invariant-loop-v : goal.invariant-loop-v
invariant-loop-v l = any (other_end_of l.n l.before l.some) l.v ≡ false
