-- The answer to a log (document 02, order 7: "Accept exactly the logs that are work-conserving schedules of the graph").
--
--   place_of G l room row    the first place that a row holds for, or as many as there are
--   applies G l room row    the row holds for some place
--   first_row G l room       the first row that applies, or 8
--   judge_log G l room       no with the number of that row and its first place, else accepted
--   Rightly G l room r      r has the number of the first row that applies, and the first place that it holds for
--   First p m k             k is the first of m places at which p holds
--   Conforms G l            l is in form, and the schedule that it records is work conserving, with times at most the WCETs
use Rattle.std.specs.Prelude.{◌≡◌, Bool, true, false, List, ℕ, ◌<◌, ltb}
use Rattle.model.specs.Places.{pick, first}
use Rattle.model.specs.Graph.{Graph}
use Rattle.model.specs.Schedule.{Times, WorkConserving}
use Rattle.graph.specs.declared.Refusal.{Refusal}
use Rattle.graph.specs.Answer.{Answer}
use Rattle.graph.specs.Answer.{Accepted, Refused}
use Rattle.recorded.specs.Log.{InForm}
use Rattle.recorded.specs.Recorded.{schedule_of}
use Rattle.recorded.specs.Rules.{holds, number, places}

unfoldable pub place_of : Graph → List ℕ → ℕ → ℕ → ℕ
place_of G l room row = first (holds G l room row) (places G l row)

unfoldable pub applies : Graph → List ℕ → ℕ → ℕ → Bool
applies G l room row = ltb (place_of G l room row) (places G l row)

unfoldable pub first_row : Graph → List ℕ → ℕ → ℕ
first_row G l room = first (applies G l room) 8

unfoldable pub judge_log : Graph → List ℕ → ℕ → Answer
judge_log G l room =
    pick (ltb (first_row G l room) 8)
    (Refused (record { number = number (first_row G l room); place = place_of G l room (first_row G l room) }))
    Accepted

pub record Rightly (G : Graph) (l : List ℕ) (room : ℕ) (r : Refusal) : Type 0 where
  pub row : ℕ
  pub known : row < 8
  pub named : r.number ≡ number row
  pub within : r.place < places G l row
  pub there : holds G l room row r.place ≡ true
  pub not_before : (k : ℕ) → k < r.place → holds G l room row k ≡ false
  pub no_earlier : (i k : ℕ) → i < row → k < places G l i → holds G l room i k ≡ false

pub record First (p : ℕ → Bool) (m k : ℕ) : Type 0 where
  pub within : k < m
  pub there : p k ≡ true
  pub not_before : (j : ℕ) → j < k → p j ≡ false

pub record Conforms (G : Graph) (l : List ℕ) : Type 0 where
  pub in_form : InForm G.n l
  pub conserving : WorkConserving G (schedule_of l)
  pub in_time : Times G (schedule_of l).time
