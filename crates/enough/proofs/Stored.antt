-- An accepted graph as it was laid, with another number of cores of one type stored: an accepted graph again.
use mathlib.Core.Path.{◌≡◌, ap, fun_ext}
use mathlib.Core.Logic.{◌⊎◌, inl, inr}
use Prim.Native.Nat.{ℕ, ◌≤◌, ◌<◌}
use native.Mathlib.Omega.{arith}
use lib.Dec.{eqb}
use lib.ListN.{get_or, length, set, get_or-eq_default}
use Rattle.model.specs.Places.{pick}
use Rattle.model.specs.Better.{with_cores}
use Rattle.model.proofs.Bools.{le-or-lt}
use Rattle.model.proofs.Turns.{put-at}
use Rattle.model.proofs.Changes.{cores_well, cores-acyclic}
use Rattle.graph.specs.Model.{AcceptedGraph, as_model, from, to, joins}
use Rattle.reader.specs.Laid.{Usable, on_cores}
use Rattle.reader.specs.declared.Laid.{Laid}

module _ {l : Laid} (R : Usable l) (s m : ℕ) (known : s < l.graph.kinds) where
  -- a kind that has cores has a place in the list
  place : s < length l.graph.cores
  unfolding as_model
  place = go (le-or-lt (length l.graph.cores) s)
    where
      go : (length l.graph.cores ≤ s) ⊎ (s < length l.graph.cores) → s < length l.graph.cores
      go (inl k) = absurd (omega (arith, R.accepted.well_formed.some_core s known, get_or-eq_default l.graph.cores 0 k))
      go (inr k) = k

  at : (r : ℕ) → get_or (set l.graph.cores s m) r 0 ≡ pick (eqb r s) m (get_or l.graph.cores r 0)
  at r = put-at l.graph.cores s m r place

  abbrev stored : Laid
  stored = on_cores l (set l.graph.cores s m)

  -- THEOREM. It is the graph with so many cores of this type, all else as declared.
  pub stored_model : as_model stored.graph ≡ with_cores (as_model l.graph) s m
  unfolding as_model joins from to
  stored_model =
      ap (λ (f : ℕ → ℕ). record {
        n = l.graph.n;
        kinds = l.graph.kinds;
        kind = λ u. get_or l.graph.kind u 0;
        cores = f;
        wcet = λ u. get_or l.graph.wcet u 0;
        edge = (as_model l.graph).edge;
      }) (fun_ext at)

  -- THEOREM. It is accepted again, from 1 to 16 cores.
  pub stored_usable : 1 ≤ m → m ≤ 16 → Usable stored
  unfolding as_model joins from to
  stored_usable some few = record {
    accepted = record {
      few_kinds = A.few_kinds;
      some_vertex = A.some_vertex;
      few_vertices = A.few_vertices;
      few_edges = A.few_edges;
      well_formed = rw stored_model (cores_well A.well_formed s m (λ k. omega arith) few);
      acyclic = rw stored_model (cores-acyclic A.acyclic s m);
      short = A.short;
      from_known = A.from_known;
      to_known = A.to_known;
      ascending = A.ascending;
      kind_past = A.kind_past;
      wcet_past = A.wcet_past;
    };
    along = record { starts = R.along.starts; order = R.along.order };
    rows = R.rows;
  }
    where
      A : AcceptedGraph l.graph
      A = R.accepted
