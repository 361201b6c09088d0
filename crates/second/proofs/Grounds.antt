-- From an accepted graph as it was laid to what the functions ask for.
use mathlib.Core.Path.{◌≡◌, refl, ap, ◌∙◌}
use mathlib.Core.List.{List, []}
use Prim.Native.Nat.{ℕ, ◌≤◌, ◌<◌}
use native.Mathlib.Omega.{arith}
use lib.ListN.{get_or}
use Rattle.model.specs.Places.{padded}
use Rattle.model.specs.PathCount.{path_count}
use Rattle.model.proofs.Tables.{padded-at}
use Rattle.graph.specs.Model.{as_model}
use Rattle.reader.specs.Laid.{Usable}
use Rattle.reader.specs.declared.Laid as reader
use Rattle.paths.specs.Ahead.{Weighed}
use Rattle.ways.specs.Counts.{Counts}
use Rattle.sets.specs.Sets.{Holds}
use Rattle.parallel.specs.Rows.{beside}
use Rattle.visit.specs.Cells.{Ground, Laid}
use Rattle.second.specs.Shares.{share_by}

module _ {l : reader.Laid} (R : Usable l) where
  pub lists : Weighed l.graph l.graph.edge l.starts l.order l.graph.n []
  lists = record {
    rows = record { accepted = R.accepted; edge = refl; starts = R.along.starts };
    order = R.along.order;
    vertices = refl;
    light = λ v k. omega arith;
  }

  pub laid : Laid l.graph l.graph.edge l.starts
  laid = record { order = l.order; lists = lists }

  -- ---- the tables

  pub cores-some : (s : ℕ) → s < l.graph.kinds → 0 < get_or l.graph.cores s 0
  unfolding as_model
  cores-some = R.accepted.well_formed.some_core

  pub ground : {t sh : List ℕ} {r : List (List ℕ)} → Counts (as_model l.graph) t → path_count (as_model l.graph) ≤ 4096 → Holds r (beside (as_model l.graph))
      → sh ≡ padded 10 (share_by l.graph.cores) l.graph.kinds
      → Ground l.graph t r l.graph.kind l.graph.wcet sh
  unfolding share_by
  ground C few H is = record {
    accepted = R.accepted;
    few = few;
    numbers = C;
    rows = H;
    kind = refl;
    wcet = refl;
    shares = λ s k. ap (λ (y : List ℕ). get_or y s 0) is ∙ padded-at 10 (share_by l.graph.cores) l.graph.kinds s k;
  }
