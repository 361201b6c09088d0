use mathlib.Core.Path.{◌≡◌}
use Rattle.vset.specs.Members.{is_in}
use Rattle.choice.specs.Choice.{fair_by}
use Rattle.choice.proofs.fair.Given as goal

abbrev pub invariant-loop-k : goal.invariant-loop-k
invariant-loop-k l =
    l.ok ≡ fair_by l.k l.cores l.words (is_in l.ran)
