-- Of an accepted graph the starts and the order can be found again: its edges hold no cycle.
use mathlib.Core.Path.{◌≡◌, ◌∙◌}
use mathlib.Core.Logic.{◌⊎◌, inl, inr}
use mathlib.Core.Bool.{Bool, true, false}
use mathlib.Core.List.{List}
use Prim.Native.Nat.{ℕ}
use Rattle.model.specs.Cycle.{cyclic}
use Rattle.model.proofs.Bools.{cases}
use Rattle.model.proofs.Cycles.{walk_cyclic}
use Rattle.graph.specs.Model.{AcceptedGraph, as_model}
use Rattle.graph.specs.declared.Graph.{Graph}
use Rattle.cycle.specs.Drawn.{drawn}
use Rattle.cycle.proofs.Drawn.{drawn-cyclic}
use Rattle.reader.specs.Laid.{LaidOut, Usable}
use Rattle.reader.specs.declared.Laid.{Laid}

module _ {g : Graph} (G : AcceptedGraph g) where
  no_cycle : cyclic (as_model g) ≡ false
  no_cycle = go (cases (cyclic (as_model g)))
    where
      go : (cyclic (as_model g) ≡ true) ⊎ (cyclic (as_model g) ≡ false) → cyclic (as_model g) ≡ false
      go (inl t) = let w = walk_cyclic G.well_formed t in absurd (G.acyclic w.0 w.1)
      go (inr f) = f

  pub none_again : {r : Bool} → r ≡ cyclic (as_model (drawn g.edge g.n g.edges)) → r ≡ false
  none_again e = e ∙ drawn-cyclic g ∙ no_cycle

  pub usable_again : {l : Laid} → LaidOut g l → Usable l
  usable_again L = record { accepted = rw L.graph G; along = rw L.graph L.along; rows = rw L.graph L.rows }
