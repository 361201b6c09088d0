-- Order 7 from the file's bytes: which logs are accepted, with what finish and times, and demand 3 for each of them.
use Rattle.std.specs.Prelude.{Ok, Err}
use mathlib.Core.Path.{◌≡◌, refl, sym, ap, ◌∙◌}
use mathlib.Core.Logic.{◌⊎◌, inl, inr}
use mathlib.Core.List.{List, ◌++◌}
use Prim.Native.Nat.{ℕ, ◌*◌, ◌≤◌, ◌<◌}
use native.Mathlib.Omega.{arith}
use lib.ListN.{length, get_or, drop}
use Rattle.model.specs.Places.{table}
use Rattle.model.specs.Graph.{WellFormed}
use Rattle.model.specs.Graph as model
use Rattle.model.specs.Cycle.{Acyclic}
use Rattle.model.specs.Bounds.{PARTS, NewB1}
use Rattle.model.specs.Second.{NewB2}
use Rattle.model.proofs.Demand3.{demand_3, demand_3_second}
use Rattle.model.specs.Schedule.{EndsBy}
use Rattle.model.specs.Schedule as schedules
use Rattle.graph.specs.Judge.{read_of}
use Rattle.graph.specs.Model.{as_model, AcceptedGraph}
use Rattle.graph.specs.declared.Graph.{Graph}
use Rattle.graph.specs.declared.Refusal.{Refusal}
use Rattle.graph.specs.Answer.{Answer}
use Rattle.graph.specs.Answer as answers
use Rattle.graph.proofs.Accepted as reader
use Rattle.units.specs.declared.Ticks.{Ticks}
use Rattle.recorded.specs.Recorded.{last_instant, total, schedule_of, finish_in_of}
use Rattle.recorded.specs.Judge.{judge_log, Rightly, Conforms}
use Rattle.replay.specs.Answers.{replay_beside, replay_on_of, replay_of, times_after_of}
use Rattle.replay.specs.Replayed.{Replayed}
use Rattle.replay.specs.Replayed.{Finish, Refused}
use Rattle.recorded.proofs.Conserving.{passes_conserving, passes_times, conserving_passes}
use Rattle.recorded.proofs.Finishing.{finish_in, finish-is}
use Rattle.recorded.proofs.Judging as judging

-- an answer that is a finish comes of an accepted log, and a refusal of a refused one
beside-finish : (a : Answer) (g : Graph) (l : List ℕ) (x : Replayed) → replay_beside a g l ≡ x
    → ((a ≡ answers.Accepted) × (x ≡ Finish (record { 0 = finish_in_of (as_model g) l }))) ⊎ ((r : Refusal) × (a ≡ answers.Refused r) × (x ≡ Refused r))
beside-finish (Ok _) g l x e = inl (refl, sym e)
beside-finish (Err r) g l x e = inr (r, refl, sym e)

module _ (s : List ℕ) (bytes : (i : ℕ) → get_or s i 0 < 256) (ok : (read_of s).answer ≡ answers.Accepted) (l : List ℕ) (room : ℕ) where
  abbrev G : model.Graph
  G = as_model (read_of s).graph

  graph-ok : AcceptedGraph (read_of s).graph
  graph-ok = reader.taken s bytes ok

  W : WellFormed G
  W = graph-ok.well_formed

  A : Acyclic G
  A = graph-ok.acyclic

  few : G.n ≤ 256
  unfolding as_model
  few = omega (arith, graph-ok.few_vertices)

  on-graph : replay_of s l room ≡ replay_beside (judge_log G l room) (read_of s).graph l
  unfolding replay_of replay_on_of
  on-graph = rw ok refl

  conforms : judge_log G l room ≡ answers.Accepted → Conforms G l
  conforms j = record {
    in_form = judging.in_form G l room j;
    conserving = passes_conserving W A few (judging.in_form G l room j) (judging.passes G l room j);
    in_time = passes_times W A few (judging.in_form G l room j) (judging.passes G l room j);
  }

  -- THEOREM. A log in form that is a work-conserving schedule of the graph, with times at most the WCETs, is accepted where there is room.
  pub accepts : Conforms G l → G.n ≤ room → replay_of s l room ≡ Finish (record { 0 = finish_in_of G l })
  accepts c h = on-graph ∙ rw (judging.judged G l room c.in_form (conserving_passes W A few c.in_form c.conserving c.in_time) h) refl

  -- THEOREM. And no other log is: what is accepted is such a log, there is room, and the finish is that of the schedule, the log's last instant.
  pub record Accepted (F : ℕ) : Type 0 where
    pub is : Conforms G l
    pub room-enough : G.n ≤ room
    pub finish : schedules.Finish G (schedule_of l) F
    pub last : F ≡ last_instant l

  pub accepted : (F : ℕ) → replay_of s l room ≡ Finish (record { 0 = F }) → Accepted F
  accepted F e = go (beside-finish (judge_log G l room) (read_of s).graph l (Finish (record { 0 = F })) (sym on-graph ∙ e))
    where
      go : ((judge_log G l room ≡ answers.Accepted) × (Finish (record { 0 = F }) ≡ Finish (record { 0 = finish_in_of G l })))
          ⊎ ((r : Refusal) × (judge_log G l room ≡ answers.Refused r) × (Finish (record { 0 = F }) ≡ Refused r)) → Accepted F
      go (inl (j, q)) =
          let c = conforms j in
          let y : ◌≡◌ {A = Ticks} (record { 0 = F }) (record { 0 = finish_in_of G l }) = cc in
          let x : F ≡ finish_in_of G l = ap (λ (t : Ticks). t.0) y in
          record {
            is = c;
            room-enough = judging.room-enough G l room j;
            finish = rw x (finish-is W A few c.in_form);
            last = x ∙ finish_in W A few c.in_form;
          }
      go (inr (r, j, q)) = absurd (let z : ◌≡◌ {A = ℕ} 0 1 = cc in omega arith)

  -- THEOREM. A refusal has the number of the first of the order's rows that applies, and the first place that it holds for.
  pub refused : (r : Refusal) → replay_of s l room ≡ Refused r → Rightly G l room r
  refused r e = go (beside-finish (judge_log G l room) (read_of s).graph l (Refused r) (sym on-graph ∙ e))
    where
      go : ((judge_log G l room ≡ answers.Accepted) × (Refused r ≡ Finish (record { 0 = finish_in_of G l })))
          ⊎ ((r' : Refusal) × (judge_log G l room ≡ answers.Refused r') × (Refused r ≡ Refused r')) → Rightly G l room r
      go (inl (j, q)) = absurd (let z : ◌≡◌ {A = ℕ} 0 1 = cc in omega arith)
      go (inr (r', j, q)) = let x : r ≡ r' = cc in rw x (judging.rightly G l room r' j)

  -- THEOREM. Demand 3 covers each log that is accepted: it ends by NEW-B-1, and by NEW-B-2 where that is defined, and so does the finish that is
  -- handed back.
  module _ (F : ℕ) (e : replay_of s l room ≡ Finish (record { 0 = F })) (B : ℕ) where
    pub replay-ends_by : NewB1 G B → EndsBy G (schedule_of l) B
    replay-ends_by b = let c = (accepted F e).is in demand_3 W A c.in_time c.conserving B b

    pub replay-within : NewB1 G B → F * PARTS ≤ B
    replay-within b = (replay-ends_by b).within F (accepted F e).finish

    pub replay-ends_by_second : NewB2 G B → EndsBy G (schedule_of l) B
    replay-ends_by_second b = let c = (accepted F e).is in demand_3_second W A c.in_time c.conserving B b

    pub replay-within-second : NewB2 G B → F * PARTS ≤ B
    replay-within-second b = (replay-ends_by_second b).within F (accepted F e).finish

-- THEOREM. A file that the reader refuses is refused with its number and place, whatever the log.
pub replay-first : (s l : List ℕ) (room : ℕ) (r : Refusal) → (read_of s).answer ≡ answers.Refused r → replay_of s l room ≡ Refused r
unfolding replay_of
replay-first s l room r e = rw e refl

-- THEOREM. A refusal leaves the lent list as it was; else it begins with the times of the vertices, and is otherwise as it was.
pub times-kept : (s l old : List ℕ) (r : Refusal) → replay_of s l (length old) ≡ Refused r → times_after_of s l old ≡ old
unfolding times_after_of
times-kept s l old r e = rw e refl

pub times-given : (s l old : List ℕ) (F : ℕ) → replay_of s l (length old) ≡ Finish (record { 0 = F })
    → times_after_of s l old ≡ table (total l) (read_of s).graph.n ++ drop (read_of s).graph.n old
unfolding times_after_of
times-given s l old F e = rw e refl
