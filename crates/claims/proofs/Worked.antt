-- The worked cases of document 01 and of the orders: every line of the table is right, computed from the rules.
use mathlib.Core.Path.{◌≡◌, refl, sym, ap₂}
use mathlib.Core.Bool.{Bool, true, false, not, ◌&&◌, ◌||◌}
use mathlib.Core.List.{List, [], ◌∷◌}
use Prim.Native.Nat.{ℕ, zero, suc, ◌+◌, ◌≤◌, ◌<◌, ◌/◌}
use native.Mathlib.Omega.{arith}
use lib.Dec.{eqb, ltb}
use lib.ListN.{length, get_or}
use borrow.Author.Tests.{eqb-true, eq-eqb, ltb-true}
use Rattle.model.specs.Places.{first, count, any, every, table, padded, sum, largest, along}
use Rattle.model.specs.Graph.{Graph, WellFormed, source, sink}
use Rattle.model.specs.Cycle.{Acyclic, walks, cyclic, reach, ancestor}
use Rattle.model.specs.Bounds.{PARTS, vol, volume, used, most_cores_of, scaled}
use Rattle.model.specs.ListSchedule.{finished_within, finished, ready, goes_on_next, waits, chosen, leap, steps}
use Rattle.model.specs.Second.{parallel, parallel_to, vol_parallel, second}
use Rattle.model.specs.PathCount.{ways_within, ways, path_count}
use Rattle.model.specs.Visit.{amid, path_within, path_at}
use Rattle.model.specs.Ranking.{comes}
use Rattle.model.specs.Better.{with_cores, without_edge, Improved, raised, Loosened, removed}
use Rattle.model.proofs.Bools.{left-of, right_of, same_test}
use Rattle.model.proofs.Visit.{second_of, second_computed}
use Rattle.model.proofs.Rankings.{many_before, ranking_of, ranking_computed}
use Rattle.graph.specs.File.{word_at, key_at, order, is_order, many, ordinal, column, words, keys, graph_of}
use Rattle.graph.specs.Model.{from, to, joins, as_model}
use Rattle.graph.specs.Rules.{rule1, rule2, rule3, rule4, rule5, rule6, rule7, rule8, rule9, rule10, rule11, holds, places}
use Rattle.graph.specs.Judge.{place_of, applies, lowest, judge_from, read_of}
use Rattle.graph.proofs.Accepted.{taken}
use Rattle.paths.proofs.Computed.{ahead_within, ahead_of, greatest_of, head_of, next_of, steps_of, least_of}
use Rattle.bounds.proofs.Computed.{old_of, new_found, path_found, old_b_computed, new_b_1_computed, path_computed}
use Rattle.gaining.proofs.Computed.{gain_found, gain_computed}
use Rattle.times.specs.Times.{too_long_of, judge_times}
use Rattle.schedule.specs.Start.{started_on, start_of}
use Rattle.leaps.specs.Finishes.{done_at, finish_at, finish_of}
use Rattle.schedule.specs.Whole.{play_in, play_on_of, play_of, finishes_of}
use Rattle.claims.specs.Claims.{IsAccepted, graph_in}
use Rattle.claims.specs.Worked as worked

abbrev bytes : List ℕ → Bool
bytes [] = true
bytes (x ∷ s) = ltb x 256 && bytes s

byte_at : (s : List ℕ) → bytes s ≡ true → (i : ℕ) → get_or s i 0 < 256
byte_at [] e i = omega arith
byte_at (x ∷ s) e zero = ltb-true x 256 (left-of (ltb x 256) (bytes s) e)
byte_at (x ∷ s) e (suc i) = byte_at s (right_of (ltb x 256) (bytes s) e) i

-- what is computed from a file holds of it
computed : (s : List ℕ) {old new ticks : ℕ} {path : List ℕ} → bytes s ≡ true → IsAccepted s → old_of (graph_in s) ≡ old → new_found (graph_in s) ≡ new
    → new / PARTS ≡ ticks → path_found (graph_in s) ≡ path → worked.HasBounds s old new ticks path
computed s b a o n t p =
    let A = taken s (byte_at s b) a in
    record {
      is_accepted = a;
      has_old = rw o at (old_b_computed A.well_formed A.acyclic);
      has_new = rw n at (new_b_1_computed A.well_formed A.acyclic);
      has_ticks = t;
      has_path = rw p at (path_computed A.well_formed A.acyclic);
    }

seconded : (s : List ℕ) {parts : ℕ} → bytes s ≡ true → IsAccepted s → second_of (graph_in s) ≡ parts → worked.HasSecond s parts
seconded s b a e =
    let A = taken s (byte_at s b) a in record { is_accepted = a; has_second = rw e at (second_computed A.well_formed A.acyclic) }

-- what `gain_found` computes for the vertices from v on
abbrev Computes : Graph → ℕ → List ℕ → Type 0
Computes G v [] = Unit {0}
Computes G v (x ∷ l) = (gain_found G v ≡ x) × Computes G (suc v) l

gains-from : {G : Graph} → WellFormed G → Acyclic G → (v : ℕ) (l : List ℕ) → v + length l ≡ G.n → Computes G v l → worked.EachGain G v l
gains-from W A v [] m c = tt
gains-from W A v (x ∷ l) m c = (rw c.0 at (gain_computed W A v (omega arith)), gains-from W A (suc v) l (omega arith) c.1)

gained : (s : List ℕ) {gain ranking : List ℕ} → bytes s ≡ true → IsAccepted s → length gain ≡ (graph_in s).n → Computes (graph_in s) 0 gain
    → ranking_of (length gain) (λ v. get_or gain v 0) ≡ ranking → worked.HasGains s gain ranking
gained s {gain} b a m c r =
    let A = taken s (byte_at s b) a in
    record {
      is_accepted = a;
      has_many = m;
      has_gains = gains-from A.well_formed A.acyclic 0 gain (omega (arith, m)) c;
      has_ranking = rw r at (ranking_computed (length gain) (λ v. get_or gain v 0));
    }

-- THEOREM. Cases A to L, and those of the orders.
pub cases : worked.All worked.Right worked.rows
unfolding first count any every table padded sum largest source walks cyclic vol volume used most_cores_of scaled finished_within finished ready goes_on_next waits chosen leap steps word_at key_at order is_order many ordinal column words keys graph_of from to joins as_model rule1 rule2 rule3 rule4 rule5 rule6 rule7 rule8 rule9 rule10 rule11 holds places place_of applies lowest judge_from read_of ahead_within ahead_of greatest_of head_of next_of steps_of least_of old_of new_found path_found too_long_of judge_times started_on start_of done_at finish_at finish_of play_in play_on_of play_of finishes_of sink along reach ancestor parallel parallel_to vol_parallel second ways_within ways path_count amid path_within path_at second_of gain_found comes many_before ranking_of
cases = (
  computed worked.file_a refl refl refl refl refl refl,
  (
    record { answer = refl; lent = refl },
    (
      gained worked.file_a refl refl refl (refl, (refl, (refl, (refl, tt)))) refl,
      (
        computed worked.file_b refl refl refl refl refl refl,
        (
          computed worked.file_c refl refl refl refl refl refl,
          (
            seconded worked.joined refl refl refl,
            (
              seconded worked.parted refl refl refl,
              (
                computed worked.file_d refl refl refl refl refl refl,
                (
                  record { answer = refl; lent = refl },
                  (
                    record { answer = refl; lent = refl },
                    (
                      computed worked.file_f refl refl refl refl refl refl,
                      (
                        record { answer = refl; lent = refl },
                        (
                          gained worked.two_equal refl refl refl (refl, (refl, (refl, (refl, tt)))) refl,
                          (
                            gained worked.chain refl refl refl (refl, (refl, (refl, tt))) refl,
                            (refl, (refl, (refl, (computed _ refl refl refl refl refl refl, (refl, (refl, (computed _ refl refl refl refl refl refl, (computed _ refl refl refl refl refl refl, (seconded worked.file_a refl refl refl, (seconded _ refl refl refl, tt)))))))))),
                          ),
                        ),
                      ),
                    ),
                  ),
                ),
              ),
            ),
          ),
        ),
      ),
    ),
  ),
)

-- ---- two of these files that differ in one thing

two : (P : ℕ → Type 0) → P 0 → P 1 → (s : ℕ) → s < 2 → P s
two P a b zero l = a
two P a b (suc zero) l = b
two P a b (suc (suc s)) l = absurd (omega arith)

pub c_raises_b : Improved (graph_in worked.file_b) (graph_in worked.file_c)
unfolding first count any every table padded word_at key_at order is_order many ordinal column words keys graph_of from to joins as_model walks cyclic rule1 rule2 rule3 rule4 rule5 rule6 rule7 rule8 rule9 rule10 rule11 holds places place_of applies lowest judge_from read_of
c_raises_b =
    raised 0 16 (omega arith)
    (record {
      same_n = refl;
      same_kinds = refl;
      same_kind = λ v l. refl;
      same_cores = two (λ s. (graph_in worked.file_c).cores s ≡ (with_cores (graph_in worked.file_b) 0 16).cores s) refl refl;
      same_wcet = λ v l. refl;
      same_edges = λ u v. refl;
    })

swap : (a b : ℕ) → eqb a b ≡ eqb b a
swap a b = same_test (eqb a b) (eqb b a) (λ t. eq-eqb b a (sym (eqb-true a b t))) (λ t. eq-eqb a b (sym (eqb-true b a t)))

-- of two edges, the second left out
one_left : (a b d : Bool) → b ≡ d → (a ≡ true → d ≡ false) → a ≡ (a || b) && not d
one_left true b d e f = rw (f refl) refl
one_left false b d e f = rw e (neither d)
  where
    neither : (d : Bool) → false ≡ d && not d
    neither true = refl
    neither false = refl

pub parted-lacks : Loosened (graph_in worked.joined) (graph_in worked.parted)
unfolding first count any every table padded word_at key_at order is_order many ordinal column words keys graph_of from to joins as_model walks cyclic rule1 rule2 rule3 rule4 rule5 rule6 rule7 rule8 rule9 rule10 rule11 holds places place_of applies lowest judge_from read_of
parted-lacks =
    removed 1 2
    (record {
      same_n = refl;
      same_kinds = refl;
      same_kind = λ v l. refl;
      same_cores = λ s l. refl;
      same_wcet = λ v l. refl;
      same_edges = λ u v. one_left (eqb 0 u && eqb 2 v) (eqb 1 u && eqb 2 v) (eqb u 1 && eqb v 2) (turned u v) (λ t. rw (← eqb-true 0 u (left-of (eqb 0 u) (eqb 2 v) t)) refl);
    })
  where
    turned : (u v : ℕ) → eqb 1 u && eqb 2 v ≡ eqb u 1 && eqb v 2
    turned u v = ap₂ (λ (x y : Bool). x && y) (swap 1 u) (swap 2 v)

pub joined_paths : path_count (graph_in worked.joined) ≡ 2
unfolding first count any every table padded sum source sink word_at key_at order is_order many ordinal column words keys graph_of from to joins as_model walks cyclic rule1 rule2 rule3 rule4 rule5 rule6 rule7 rule8 rule9 rule10 rule11 holds places place_of applies lowest judge_from read_of ways_within ways path_count
joined_paths = refl

pub parted_paths : path_count (graph_in worked.parted) ≡ 2
unfolding first count any every table padded sum source sink word_at key_at order is_order many ordinal column words keys graph_of from to joins as_model walks cyclic rule1 rule2 rule3 rule4 rule5 rule6 rule7 rule8 rule9 rule10 rule11 holds places place_of applies lowest judge_from read_of ways_within ways path_count
parted_paths = refl
