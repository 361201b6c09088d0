-- Charts: a schedule of the model counts cores, and a chart names them. One function gives each stretch of a log a core of its kind
-- (`lanes::name`); here is what its contract gives for the lists of an accepted file and a log that `replay` accepts. The logs of our own runs
-- are among these (`log-replayed`, Order7).
--
-- `Named` and `placing_of` are in `lanes`, specs/Lanes; `NoneIdle` and `Same` in the model's specs/Placing.
use mathlib.Core.Path.{◌≡◌, sym, ap, ◌∙◌}
use mathlib.Core.List.{List, ◌++◌}
use Prim.Native.Nat.{ℕ}
use lib.ListN.{length, take, drop}
use lib.Seq.{take_at}
use Rattle.model.specs.Graph.{Graph}
use Rattle.model.specs.Placing.{counted, NoneIdle, Same}
use Rattle.graph.specs.File.{records}
use Rattle.graph.specs.Judge.{read_of}
use Rattle.graph.specs.Model.{as_model, AcceptedGraph}
use Rattle.graph.proofs.Accepted as reader
use Rattle.units.specs.declared.Ticks.{Ticks}
use Rattle.recorded.specs.Recorded.{schedule_of}
use Rattle.recorded.specs.Judge.{Conforms}
use Rattle.replay.specs.Replayed.{Finish as Finishes}
use Rattle.replay.proofs.Accepting.{accepted}
use Rattle.lanes.specs.Lanes.{lanes_of, Named, placing_of}
use Rattle.lanes.specs.Passing.{listed}
use Rattle.lanes.proofs.Given.{lent-named, named-none-idle, named-same}
use Rattle.claims.specs.Claims.{Bytes, IsAccepted, graph_in}
use Rattle.claims.specs.Entries.{ReplayGives, LanesGives}
use Rattle.claims.proofs.Entries.{replay-given, lanes_given}

module _ {s l old new out out' : List ℕ} {F : Ticks} (bytes : Bytes s) (ok : IsAccepted s) (R : ReplayGives s l old (Finishes F) new)
    (L : LanesGives l (read_of s).graph.n (read_of s).graph.kind (read_of s).graph.cores out out') where
  graph : AcceptedGraph (read_of s).graph
  graph = reader.taken s bytes ok

  conforms : Conforms (graph_in s) l
  conforms = (accepted s bytes ok l (length old) F.0 (sym (replay-given R).0)).is

  -- THEOREM. The front of the list has for each record of the log a core of its vertex's kind: one that there is, no core with two vertices at
  -- once, and the same core for as long as a vertex runs on.
  pub cores-named : Named l (graph_in s).kind (graph_in s).cores (take (records l) out')
  unfolding as_model
  cores-named =
      let N = lent-named graph conforms in
      let names = lanes_of (read_of s).graph.n l (listed (read_of s).graph.kind) (listed (read_of s).graph.cores) in
      let z : take (records l) out' ≡ names = ap (take (records l)) (lanes_given L) ∙ take_at names (drop (records l) out) (records l) N.long in
      rw z N

  -- THEOREM. With these names the frame leaves no core idle while a ready vertex of its kind waits, and without them it is the frame of the log.
  pub frame_placed : NoneIdle (graph_in s) (placing_of (graph_in s) l (take (records l) out'))
      × Same (graph_in s) (schedule_of l) (counted (graph_in s) (placing_of (graph_in s) l (take (records l) out')))
  frame_placed = (
    named-none-idle graph.well_formed graph.acyclic conforms.conserving cores-named,
    named-same graph.well_formed graph.acyclic conforms.conserving cores-named,
  )
