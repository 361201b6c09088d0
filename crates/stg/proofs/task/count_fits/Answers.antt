use mathlib.Core.Path.{refl}
use Rattle.stg.specs.Rows.{counts}
use Rattle.stg.proofs.task.count_fits.Goals as goal

pub returns : goal.returns
unfolding counts
returns c = λ n xs H. rw (H.all_many, H.has_number) refl
