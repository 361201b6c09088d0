use mathlib.Core.Path.{refl, ap}
use mathlib.Core.Bool.{Bool}
use Rattle.stg_writer.specs.Before.{other_end_of}
use Rattle.stg_writer.proofs.ends.other_end.Goals as goal

pub returns : goal.returns
unfolding other_end_of
returns c = rw (c.is_empty-source.ensures, c.row-set.ensures, c.test-follows.ensures) (ap (λ (x : Bool). x) refl)
