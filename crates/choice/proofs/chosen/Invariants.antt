use mathlib.Core.Bool.{◌||◌}
use lib.ListN.{get_or}
use Rattle.model.specs.Places.{any}
use Rattle.vset.specs.Members.{is_in, Members}
use Rattle.choice.specs.Choice.{set_at_of, starts}
use Rattle.choice.proofs.chosen.Given as goal

abbrev pub invariant-loop-k : goal.invariant-loop-k
invariant-loop-k l =
    Members l.got (λ v. is_in l.stay v || any (λ j. starts (is_in l.stay) (is_in l.free) (is_in (set_at_of l.words j)) (get_or l.cores j 0) v) l.k)
