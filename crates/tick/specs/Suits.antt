-- When a run record suits a graph (document 01, "Schedules"): "A record suits a graph when N agrees, no remainder exceeds its WCET,
-- instant plus all remainders is at most 128,000,000, and the vertices marked as running are ready (taking each remainder as its time)
-- and no more than the cores of each type." And: "places from N on stay zero and unmarked; a record where they aren't gets 16."
--
-- Order 8 adds: "16 also covers a record whose stored numbers disagree with its remainders, or are not zero from N on."
--
--   SuitsBefore g r     document 01's sentences
--   NumbersRight g r    order 8's: the stored numbers are those of unfinished direct predecessors, by the remainders
--   Suits g r           both
--   suits_before, numbers_right, suits    the same as tests, in the same order; they compute     (proofs/Suiting: they tell them)
use Rattle.std.specs.Prelude.{◌≡◌, Bool, true, false, not, ◌&&◌, ◌||◌, ℕ, ◌+◌, ◌≤◌, ◌<◌, eqb, ltb, leb, get_or}
use Rattle.model.specs.Places.{count, every, sum}
use Rattle.model.specs.Schedule.{Ready}
use Rattle.model.specs.ListSchedule.{ready, Fair}
use Rattle.graph.specs.declared.Graph.{Graph}
use Rattle.graph.specs.Model.{as_model}
use Rattle.vset.specs.Members.{is_in}
use Rattle.tick.specs.declared.Run.{Run}
use Rattle.tick.specs.Run.{MOST, left_of, waiting_of, state_of, awaited}

pub record SuitsBefore (g : Graph) (r : Run) : Type 0 where
  -- N agrees
  pub agrees : r.n ≡ g.n
  -- no remainder exceeds its WCET
  pub no_more : (v : ℕ) → v < g.n → left_of r v ≤ get_or g.wcet v 0
  -- instant plus all remainders is at most 128,000,000
  pub in_time : r.instant + sum (left_of r) g.n ≤ MOST
  -- the vertices marked as running are ready, taking each remainder as its time
  pub marked_ready : (v : ℕ) → v < g.n → is_in r.ran v ≡ true → Ready (as_model g) (left_of r) v
  -- and no more than the cores of each kind
  pub few_marked : Fair (as_model g) (state_of r)
  -- places from N on are zero and unmarked
  pub zero_past : (v : ℕ) → g.n ≤ v → v < 128 → left_of r v ≡ 0
  pub unmarked_past : (v : ℕ) → g.n ≤ v → v < 128 → is_in r.ran v ≡ false

pub record NumbersRight (g : Graph) (r : Run) : Type 0 where
  -- the stored numbers agree with the remainders
  pub counted : (v : ℕ) → v < g.n → waiting_of r v ≡ awaited (as_model g) (left_of r) v
  -- and are zero from N on
  pub none_past : (v : ℕ) → g.n ≤ v → v < 128 → waiting_of r v ≡ 0

pub record Suits (g : Graph) (r : Run) : Type 0 where
  pub before : SuitsBefore g r
  pub numbers : NumbersRight g r

unfoldable pub suits_before : Graph → Run → Bool
suits_before g r =
    eqb r.n g.n
    && (every (λ v. leb (left_of r v) (get_or g.wcet v 0)) g.n
    && (leb (r.instant + sum (left_of r) g.n) MOST
    && (every (λ v. not (is_in r.ran v) || ready (as_model g) (left_of r) v) g.n
    && (every (λ k. leb (count (λ v. is_in r.ran v && eqb (get_or g.kind v 0) k) g.n) (get_or g.cores k 0)) g.kinds
    && every (λ v. ltb v g.n || (eqb (left_of r v) 0 && not (is_in r.ran v))) 128))))

unfoldable pub numbers_right : Graph → Run → Bool
numbers_right g r =
    every (λ v. eqb (waiting_of r v) (awaited (as_model g) (left_of r) v)) g.n
    && every (λ v. ltb v g.n || eqb (waiting_of r v) 0) 128

unfoldable pub suits : Graph → Run → Bool
suits g r = suits_before g r && numbers_right g r
