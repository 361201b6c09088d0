-- The numbers that say no to a log, 18 to 22 and 15, as document 02's order 7 has them. G is the graph, l the log's bytes, `room` the
-- places of the list lent for the times. 19 to 22 are about the schedule that the whole log records.
--
--   rule19 G l k        record k is a start of a vertex, at an instant at which a predecessor of it is unfinished
--   rule20 G l k        record k is a start after which more vertices of its kind run than there are cores
--   rule21 G l v        the total of v is above its WCET
--   waiting G l t v     v is ready at the instant t and does not run in the tick t
--   rule22 G l t        at the instant t a core is idle while a ready vertex of its kind waits
--   Passes G l          none of 19 to 22 holds for any place
--   holds G l room row place      what the order refuses, row by row in its order: for this place
--   number row          the number that a row is refused with
--   places G l row      how many places a row is tested for
--
-- The rows: 0 the length, 1 a record at fault, 2 still running at the end (all 18), 3 to 6 are 19 to 22, 7 is 15. The places of a row are
-- records (1, 3, 4), vertices (5), instants before the log's last (6: from it on all is finished, proofs/Seen), or 0 alone.
use Rattle.std.specs.Prelude.{◌≡◌, Bool, false, not, ◌&&◌, ◌||◌, List, ℕ, suc, ◌<◌, eqb, ltb}
use Rattle.model.specs.Places.{pick, any, count}
use Rattle.model.specs.Graph.{Graph}
use Rattle.model.specs.Schedule.{left}
use Rattle.model.specs.ListSchedule.{finished, ready}
use Rattle.graph.specs.File.{records}
use Rattle.recorded.specs.Log.{is_start, who, instant_at, running, fault, wrong_length_of, unended}
use Rattle.recorded.specs.Recorded.{last_instant, runs_in, total, schedule_of}

-- ran before a predecessor finished
unfoldable pub rule19 : Graph → List ℕ → ℕ → Bool
rule19 G l k = is_start l k && any (λ u. G.edge u (who l k) && not (finished G (left (schedule_of l) (instant_at l k)) u)) G.n

-- more at once than cores
unfoldable pub rule20 : Graph → List ℕ → ℕ → Bool
rule20 G l k =
    is_start l k
    && ltb (G.cores (G.kind (who l k))) (count (λ u. running l (suc k) u && eqb (G.kind u) (G.kind (who l k))) G.n)

-- total above WCET
unfoldable pub rule21 : Graph → List ℕ → ℕ → Bool
rule21 G l v = ltb (G.wcet v) (total l v)

unfoldable pub waiting : Graph → List ℕ → ℕ → ℕ → Bool
waiting G l t v = ready G (left (schedule_of l) t) v && not (runs_in l t v)

-- a core idle while a ready vertex of its kind waited
unfoldable pub rule22 : Graph → List ℕ → ℕ → Bool
rule22 G l t =
    any (λ v. waiting G l t v && ltb (count (λ u. runs_in l t u && eqb (G.kind u) (G.kind v)) G.n) (G.cores (G.kind v))) G.n

pub record Passes (G : Graph) (l : List ℕ) : Type 0 where
  pub no_19 : (k : ℕ) → k < records l → rule19 G l k ≡ false
  pub no_20 : (k : ℕ) → k < records l → rule20 G l k ≡ false
  pub no_21 : (v : ℕ) → v < G.n → rule21 G l v ≡ false
  pub no_22 : (t : ℕ) → t < last_instant l → rule22 G l t ≡ false

unfoldable pub holds : Graph → List ℕ → ℕ → ℕ → ℕ → Bool
holds G l room row place =
    pick (eqb row 0) (wrong_length_of l)
    (pick (eqb row 1) (fault G.n l place)
    (pick (eqb row 2) (unended G.n l)
    (pick (eqb row 3) (rule19 G l place)
    (pick (eqb row 4) (rule20 G l place)
    (pick (eqb row 5) (rule21 G l place) (pick (eqb row 6) (rule22 G l place) (ltb room G.n)))))))

unfoldable pub number : ℕ → ℕ
number row =
    pick (ltb row 3) 18 (pick (eqb row 3) 19 (pick (eqb row 4) 20 (pick (eqb row 5) 21 (pick (eqb row 6) 22 15))))

abbrev pub per_record_of : ℕ → Bool
per_record_of row = eqb row 1 || (eqb row 3 || eqb row 4)

unfoldable pub places : Graph → List ℕ → ℕ → ℕ
places G l row = pick (per_record_of row) (records l) (pick (eqb row 5) G.n (pick (eqb row 6) (last_instant l) 1))
