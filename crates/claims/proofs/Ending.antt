-- Schedules of a file's graph end by what `bounds` says of it, whatever it is that its relation allows.
use mathlib.Core.Path.{◌≡◌, sym, ◌∙◌}
use mathlib.Core.List.{List}
use Prim.Native.Nat.{ℕ, ◌*◌, ◌≤◌}
use Rattle.model.specs.Bounds.{PARTS, OldB, NewB1}
use Rattle.model.specs.Schedule.{Schedule, Times, WorkConserving, EndsBy}
use Rattle.model.specs.Placing.{Placing, counted, NoneIdle}
use Rattle.model.proofs.Cores.{named_demand_3}
use Rattle.model.proofs.Compare.{new-le-old}
use Rattle.model.proofs.Demand3 as model
use Rattle.graph.specs.Model.{as_model, AcceptedGraph}
use Rattle.graph.specs.Judge.{read_of}
use Rattle.graph.specs.Answer.{Answer}
use Rattle.graph.specs.Answer.{Accepted}
use Rattle.graph.proofs.Accepted as reader
use Rattle.bounds.specs.Answers.{Figures, Beside, BoundsOf}
use Rattle.bounds.specs.Bounded.{Bounded}
use Rattle.times.specs.Times.{times_of, judge_times, Fitting}
use Rattle.leaps.specs.Finishes.{finish_of}
use Rattle.leaps.proofs.Finishes as finishes
use Rattle.times.proofs.Fits.{times_fit}
use Rattle.claims.specs.Claims.{Bytes, IsAccepted, graph_in}

module _ (s : List ℕ) (bytes : Bytes s) (ok : IsAccepted s) (r : Bounded) (b : BoundsOf s r) where
  accepted : AcceptedGraph (read_of s).graph
  accepted = reader.taken s bytes ok

  figures : Figures (graph_in s) r
  figures = rw ok at b.figures

  pub ends_by_new : (S : Schedule) → Times (graph_in s) S.time → WorkConserving (graph_in s) S → EndsBy (graph_in s) S r.new.0
  ends_by_new S e c = model.demand_3 accepted.well_formed accepted.acyclic e c r.new.0 figures.new

  pub cores-end_by_new : (P : Placing) → Times (graph_in s) P.time → NoneIdle (graph_in s) P → EndsBy (graph_in s) (counted (graph_in s) P) r.new.0
  cores-end_by_new P e N = named_demand_3 accepted.well_formed accepted.acyclic P e N r.new.0 figures.new

  pub new-below-old : r.new.0 ≤ r.old.0
  new-below-old = new-le-old accepted.well_formed r.new.0 r.old.0 figures.new figures.old

  -- the list schedule, with any times that a start accepts
  module _ (e : List ℕ) (fit : judge_times (read_of s).graph e ≡ Accepted) where
    pub finish-below-new : finish_of (graph_in s) (times_of e) * PARTS ≤ r.new.0
    unfolding as_model
    finish-below-new = finishes.finish-below-new accepted.well_formed accepted.acyclic (times_of e) (times_fit (read_of s).graph e fit).short r.new.0 figures.new
