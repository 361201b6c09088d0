-- DEMAND 3. For every accepted graph, all execution times from zero to the WCETs, and every work-conserving schedule from tick 0: the
-- whole graph is finished at or before NEW-B-1, and NEW-B-1 is never above OLD-B.
--
-- Said from the file's bytes: b is whatever the contract of `bounds` allows for the file (there is one such answer).
use mathlib.Core.Path.{◌≡◌, sym, ◌∙◌}
use mathlib.Core.List.{List}
use Prim.Native.Nat.{ℕ, ◌*◌, ◌≤◌}
use Rattle.model.specs.Bounds.{PARTS}
use Rattle.model.specs.Schedule.{Schedule, Times, WorkConserving, EndsBy}
use Rattle.model.specs.Placing.{Placing, counted, NoneIdle, GivenCores}
use Rattle.model.proofs.Cores.{given-cores}
use Rattle.graph.specs.Model.{AcceptedGraph}
use Rattle.graph.specs.Judge.{read_of}
use Rattle.graph.specs.Answer.{Accepted}
use Rattle.graph.proofs.Accepted as reader
use Rattle.units.specs.declared.Ticks.{Ticks}
use Rattle.bounds.specs.Bounded.{Bounded}
use Rattle.schedule.specs.Played.{Finish as Finished}
use Rattle.claims.specs.Claims.{Bytes, IsAccepted, graph_in}
use Rattle.claims.specs.Entries.{BoundsGives, RunGives}
use Rattle.claims.proofs.Entries.{bounds-given, run-given}
use Rattle.claims.proofs.Running.{finish-told}
use Rattle.claims.proofs.Ending as ending

module _ {s : List ℕ} (bytes : Bytes s) {b : Bounded} (B : BoundsGives s b) (ok : b.answer ≡ Accepted) where
  taken : IsAccepted s
  taken = sym (bounds-given B).answer ∙ ok

  graph : AcceptedGraph (read_of s).graph
  graph = reader.taken s bytes taken

  -- THEOREM. Every schedule of the file's graph, with any times up to the WCETs, that gives a stage one core at a time and a core one stage, and at
  -- every tick leaves no core of a kind idle while a ready stage of that kind waits, ends by the NEW-B-1 that `bounds` gives.
  pub cores-end_by_new : (P : Placing) → Times (graph_in s) P.time → NoneIdle (graph_in s) P → EndsBy (graph_in s) (counted (graph_in s) P) b.new.0
  cores-end_by_new = ending.cores-end_by_new s bytes taken b (bounds-given B)

  -- THEOREM. The same in document 01's words, which count: of each kind as many ready vertices run as the smaller of its cores and the number
  -- ready. The two are one: such a schedule can always be given cores.
  pub ends_by_new : (S : Schedule) → Times (graph_in s) S.time → WorkConserving (graph_in s) S → EndsBy (graph_in s) S b.new.0
  ends_by_new = ending.ends_by_new s bytes taken b (bounds-given B)

  pub can_be_given-cores : {S : Schedule} → WorkConserving (graph_in s) S → GivenCores (graph_in s) S
  can_be_given-cores = given-cores graph.well_formed graph.acyclic

  -- THEOREM. NEW-B-1 ≤ OLD-B, as `bounds` gives them.
  pub new-below-old : b.new.0 ≤ b.old.0
  new-below-old = ending.new-below-old s bytes taken b (bounds-given B)

  -- THEOREM. So the finish that `run` returns is at or before NEW-B-1, whatever the times.
  pub run-below-new : {e old new : List ℕ} {F : Ticks} → RunGives s e old (Finished F) new → F.0 * PARTS ≤ b.new.0
  run-below-new {e} {old} {F = F} h =
      let R = finish-told s e _ F (sym (run-given h).0) in
      rw R.finish (ending.finish-below-new s bytes taken b (bounds-given B) e R.fit)
