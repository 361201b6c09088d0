use mathlib.Core.Path.{refl}
use Rattle.choice.specs.Choice.{set_at_of}
use Rattle.choice.proofs.set_at.Goals as goal

pub returns : goal.returns
unfolding set_at_of
returns c = refl
