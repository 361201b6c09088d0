-- A plain reading of a generated contract: `post` is what its `ensures` says, and `says` that the generated clauses say just that, in every model.
use Rattle.std.specs.Prelude.{◌≡◌}
use seplogic.Ra.Ura.{Ura}
use base.Logic.{SProp}
use prog.Memory.{Memory}
use prog.Routine.{Routine}
use types.Logic.{Logic}
use contract.Lifetimes.{Lfts}
use contract.Monad.{Fun, fact}
use denote.Triple.Entry.{Args, Res}
use denote.Triple.Clauses.{Ended, Clauses, AtExit}
use Rattle.outcome.specs.OneOutcome.{Out}

-- the type of a generated `clauses`
abbrev pub Generated : Ended → Type 2
Generated T = (M : Type 1) (𝓤 : Ura M) (𝓛 : Logic 𝓤) → (Memory → SProp 𝓤) → (Routine → Fun 𝓤) → Clauses 𝓤 T

pub record Stated (T : Ended) (c : Generated T) : Type 2 where
  pub post : Out T
  pub says : (M : Type 1) (𝓤 : Ura M) (𝓛 : Logic 𝓤) (mem : Memory → SProp 𝓤) (run : Routine → Fun 𝓤) (κs : Lfts T.signature.lifetimes) (a : Args T.signature κs) (g : (c M 𝓤 𝓛 mem run κs a).ghost) (r : Res T.signature κs) (e : AtExit T κs)
      → (c M 𝓤 𝓛 mem run κs a).ensures g r e ≡ fact 𝓤 (post κs a r e)
