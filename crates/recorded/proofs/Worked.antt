-- Small logs, computed from the definitions: each refusal and its place. One kind of one core; vertices 0, 1 and 2 with WCETs 2, 3 and 3; edges
-- 0-1 and 0-2.
use mathlib.Core.Path.{◌≡◌, refl}
use mathlib.Core.Bool.{◌&&◌, ◌||◌}
use mathlib.Core.List.{List, [], ◌∷◌, ◌++◌}
use Prim.Native.Nat.{ℕ}
use lib.Dec.{eqb}
use Rattle.model.specs.Places.{pick, first, count, any, every, largest, sum, that}
use Rattle.model.specs.Graph.{Graph}
use Rattle.model.specs.Schedule.{left}
use Rattle.model.specs.ListSchedule.{finished_within, finished, ready, goes_on_next, waits, chosen, leap, steps, list_schedule}
use Rattle.graph.specs.File.{word_at}
use Rattle.graph.specs.Answer.{Answer}
use Rattle.graph.specs.Answer.{Accepted, Refused}
use Rattle.recorded.specs.Log.{is_start, is_stop, instant_at, key, starts, stops, running, unknown_kind, unknown_vertex, spare_set, wrong_order, start_while_running, stop_while_not_running, too_late, fault, wrong_length_of, unended}
use Rattle.recorded.specs.Recorded.{last_instant, started_by, stopped_by, runs_in, ran_ticks, total, schedule_of, finish_in_of}
use Rattle.recorded.specs.Rules.{rule19, rule20, rule21, rule22, waiting, holds, number, places}
use Rattle.recorded.specs.Judge.{place_of, applies, first_row, judge_log}
use Rattle.recorded.specs.LogOf.{ran_before, starts_at, stops_at_of, change, log_record, bytes_of, log_up_to, log_of}

abbrev fork : Graph
fork = record {
  n = 3;
  kinds = 1;
  kind = λ v. 0;
  cores = λ s. 1;
  wcet = λ v. pick (eqb v 0) 2 3;
  edge = λ u v. eqb u 0 && (eqb v 1 || eqb v 2);
}

abbrev start : ℕ → ℕ → List ℕ
start v t = 0x53 ∷ v ∷ 0 ∷ 0 ∷ t ∷ 0 ∷ 0 ∷ 0 ∷ []

abbrev stop : ℕ → ℕ → List ℕ
stop v t = 0x50 ∷ v ∷ 0 ∷ 0 ∷ t ∷ 0 ∷ 0 ∷ 0 ∷ []

-- vertex 0 in the ticks 0 and 1
abbrev first_two : List ℕ
first_two = start 0 0 ++ stop 0 2

abbrev refused : ℕ → ℕ → Answer
refused num place = Refused (record { number = num; place = place })

pub data Row : Type 0 where
  says : List ℕ → Answer → Row
  ends : List ℕ → ℕ → Row

abbrev Right : Row → Type 0
Right (says l a) = judge_log fork l 3 ≡ a
Right (ends l F) = finish_in_of fork l ≡ F

abbrev All : List Row → Type 0
All [] = Unit {0}
All (r ∷ t) = Right r × All t

abbrev table : List Row
table =
    says [] Accepted
    ∷ says (0 ∷ []) (refused 18 0)
    ∷ says (first_two ++ (0 ∷ 0 ∷ 0 ∷ 0 ∷ 0 ∷ 0 ∷ 0 ∷ 0 ∷ [])) (refused 18 2)
    ∷ says (first_two ++ start 3 2) (refused 18 2)
    ∷ says (start 0 0 ++ start 0 1 ++ stop 0 2) (refused 18 1)
    ∷ says (first_two ++ stop 0 3) (refused 18 2)
    ∷ says (start 0 1 ++ stop 0 0) (refused 18 1)
    ∷ says (start 0 0) (refused 18 0)
    -- vertex 1 starts before 0 is finished, though a core more would be busy too: 19 before 20
    ∷ says (start 0 0 ++ start 1 1 ++ stop 0 2 ++ stop 1 3) (refused 19 1)
    -- 2 is behind 0, which is absent and finished at once: no 19
    ∷ says (start 2 0 ++ stop 2 1) Accepted
    -- both at once
    ∷ says (first_two ++ start 1 2 ++ start 2 2 ++ stop 1 3 ++ stop 2 3) (refused 20 3)
    -- both at once, and each for four ticks: 20 before 21
    ∷ says (first_two ++ start 1 2 ++ start 2 2 ++ stop 1 6 ++ stop 2 6) (refused 20 3)
    ∷ says (start 0 0 ++ stop 0 3) (refused 21 0)
    ∷ says (first_two ++ start 2 2 ++ stop 2 6) (refused 21 2)
    -- nobody runs in the tick 2; in the tick 0
    ∷ says (first_two ++ start 1 3 ++ stop 1 4) (refused 22 2)
    ∷ says (start 0 1 ++ stop 0 2) (refused 22 0)
    -- set aside and resumed; stopped and started at one instant
    ∷ says (first_two ++ start 1 2 ++ stop 1 3 ++ start 2 3 ++ stop 2 4 ++ start 1 4 ++ stop 1 5) Accepted
    ∷ says (first_two ++ start 1 2 ++ stop 1 3 ++ start 1 3 ++ stop 1 5) Accepted
    ∷ ends [] 0
    ∷ ends (first_two ++ start 1 2 ++ stop 1 3 ++ start 2 3 ++ stop 2 4 ++ start 1 4 ++ stop 1 5) 5
    ∷ []

-- THEOREM. Every row of the table is right.
pub cases : All table
unfolding first count any every largest left finished_within finished ready word_at is_start is_stop instant_at key starts stops running unknown_kind unknown_vertex spare_set wrong_order start_while_running stop_while_not_running too_late fault wrong_length_of unended last_instant started_by stopped_by runs_in ran_ticks total schedule_of finish_in_of rule19 rule20 rule21 rule22 waiting holds number places place_of applies first_row judge_log
cases = (refl, (refl, (refl, (refl, (refl, (refl, (refl, (refl, (refl, (refl, (refl, (refl, (refl, (refl, (refl, (refl, (refl, (refl, (refl, (refl, tt))))))))))))))))))))

-- the log of the list schedule with the times 2, 3 and 1
pub list-log : log_of fork (λ v. pick (eqb v 0) 2 (pick (eqb v 1) 3 1)) ≡ first_two ++ start 1 2 ++ stop 1 5 ++ start 2 5 ++ stop 2 6
unfolding first count any every sum finished_within finished ready goes_on_next waits chosen leap steps list_schedule ran_before starts_at stops_at_of change that log_record bytes_of log_up_to log_of
list-log = refl
