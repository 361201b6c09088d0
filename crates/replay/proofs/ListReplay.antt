-- Order 7's two sentences on particular logs, from the file's bytes: the log of a list schedule is accepted, and an empty log is the run with
-- all times 0.
use mathlib.Core.Path.{◌≡◌, refl, sym, ap, ◌∙◌}
use mathlib.Core.List.{List, [], ◌++◌}
use Prim.Native.Nat.{ℕ, ◌≤◌, ◌<◌}
use native.Mathlib.Omega.{arith}
use lib.ListN.{length, get_or, drop, get_or-eq_default}
use lib.Seq.{ext_get_or}
use Rattle.model.specs.Places.{table}
use Rattle.model.specs.Graph as model
use Rattle.model.specs.Schedule.{Times}
use Rattle.model.proofs.Tables.{table-length, table_at}
use Rattle.model.proofs.Turns.{table_ext}
use Rattle.model.proofs.Finished.{finish_unique}
use Rattle.leaps.specs.Finishes.{finish_of}
use Rattle.leaps.proofs.Finishes.{finish-of-all}
use Rattle.graph.specs.Judge.{read_of}
use Rattle.graph.specs.Model.{as_model, AcceptedGraph}
use Rattle.graph.specs.Answer as answers
use Rattle.graph.proofs.Accepted as reader
use Rattle.recorded.specs.Recorded.{total, finish_in_of}
use Rattle.replay.specs.Answers.{replay_of, times_after_of}
use Rattle.recorded.specs.LogOf.{log_of}
use Rattle.replay.specs.Replayed.{Finish}
use Rattle.replay.proofs.Accepting.{accepts, times-given}
use Rattle.recorded.proofs.ListLog.{list-log_conforms, list-log-times, list-log-finish, list-log-bytes}
use Rattle.recorded.proofs.Empty.{empty_conforms, empty-times, empty-finish}

-- ---- from the file's bytes

module _ (s : List ℕ) (bytes : (i : ℕ) → get_or s i 0 < 256) (ok : (read_of s).answer ≡ answers.Accepted) where
  abbrev G : model.Graph
  G = as_model (read_of s).graph

  graph-ok : AcceptedGraph (read_of s).graph
  graph-ok = reader.taken s bytes ok

  few : G.n ≤ 128
  unfolding as_model
  few = graph-ok.few_vertices

  -- THEOREM. An empty log is the run with all times 0: it is accepted, with the finish 0 and the times 0.
  pub empty-replay : (room : ℕ) → (read_of s).graph.n ≤ room → replay_of s [] room ≡ Finish (record { 0 = 0 })
  unfolding as_model
  empty-replay room h =
      accepts s bytes ok [] room (empty_conforms graph-ok.well_formed graph-ok.acyclic) h
      ∙ rw (empty-finish graph-ok.well_formed graph-ok.acyclic (omega (arith, few))) refl

  pub empty-replay-times : (old : List ℕ) → (read_of s).graph.n ≤ length old
      → times_after_of s [] old ≡ table (λ v. 0) (read_of s).graph.n ++ drop (read_of s).graph.n old
  empty-replay-times old h =
      times-given s [] old 0 (empty-replay (length old) h)
      ∙ ap (λ (l : List ℕ). l ++ drop (read_of s).graph.n old) (table_ext (total []) (λ v. 0) (read_of s).graph.n (λ v b. empty-times v))

  -- THEOREM. The log of a list schedule, with times that a run accepts, is accepted, with the finish of the run, and its times.
  module _ (e : List ℕ) (as_many : length e ≡ (read_of s).graph.n) (fit : (v : ℕ) → v < (read_of s).graph.n → get_or e v 0 ≤ get_or (read_of s).graph.wcet v 0) where
    abbrev times : ℕ → ℕ
    times v = get_or e v 0

    fits : Times G times
    unfolding as_model
    fits = fit

    small : (v : ℕ) → v < G.n → G.wcet v ≤ 1000000
    unfolding as_model
    small = graph-ok.short

    past : (v : ℕ) → G.n ≤ v → times v ≡ 0
    unfolding as_model
    past v h = get_or-eq_default e 0 (omega (arith, as_many))

    -- the log is made of bytes
    pub list-replay-bytes : (i : ℕ) → get_or (log_of G times) i 0 < 256
    list-replay-bytes = list-log-bytes graph-ok.well_formed graph-ok.acyclic times few fits small past

    finish-same : finish_in_of G (log_of G times) ≡ finish_of G times
    finish-same =
        finish_unique (finish_in_of G (log_of G times)) (finish_of G times)
        (list-log-finish graph-ok.well_formed graph-ok.acyclic times few fits small past) (finish-of-all graph-ok.well_formed graph-ok.acyclic times)

    pub list-replay : (room : ℕ) → (read_of s).graph.n ≤ room → replay_of s (log_of G times) room ≡ Finish (record { 0 = finish_of G times })
    unfolding as_model
    list-replay room h =
        accepts s bytes ok (log_of G times) room (list-log_conforms graph-ok.well_formed graph-ok.acyclic times few fits small past) h
        ∙ ap (λ (F : ℕ). Finish (record { 0 = F })) finish-same

    pub list-replay-times : (old : List ℕ) → (read_of s).graph.n ≤ length old → times_after_of s (log_of G times) old ≡ e ++ drop (read_of s).graph.n old
    list-replay-times old h =
        times-given s (log_of G times) old (finish_of G times) (list-replay (length old) h) ∙ ap (λ (l : List ℕ). l ++ drop (read_of s).graph.n old) back
      where
        long : length (table (total (log_of G times)) (read_of s).graph.n) ≡ (read_of s).graph.n
        long = table-length (total (log_of G times)) (read_of s).graph.n

        back : table (total (log_of G times)) (read_of s).graph.n ≡ e
        back = ext_get_or 0 (table (total (log_of G times)) (read_of s).graph.n) e (long ∙ sym as_many)
            (λ i b. table_at (total (log_of G times)) (read_of s).graph.n i (omega (arith, long))
            ∙ list-log-times graph-ok.well_formed graph-ok.acyclic times few fits small past i)
