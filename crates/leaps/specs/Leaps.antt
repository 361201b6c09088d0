-- For our own layers alone: no contract for callers and no claim cites this file.
--
-- A run between two leaps.
--
--   Work                  the run: its record, the fewest ticks left of those that ran, who has ticks left, who stands behind them, and the
--                         finish instants
--   work_of g m left wait fins    the same, from what the code keeps of it
--   Timed g left wait     what is left of each vertex at the start fits the graph, and the numbers of unfinished predecessors are right
--   stamped l p t v       t for a place of p, else what stands in l
--   Stamped l p t new     the list `new` has that at each place
--   unfinished w v        v has ticks left or stands behind one that has
--   Sound g w             the sets say what the record says, and those that ran can go on; nothing runs out of bounds
--   Leapt g room old new  a leap: d single ticks, in each of which the same vertices run; one of them ends its ticks then, or there is no
--                         room for more ticks
--   Fresh g r             a record at instant 0 whose times fit the graph and whose numbers are right
--   Kept g e w            what holds of a run with the times e between two leaps
--   record_at_of g e t        the record of the list schedule at the instant t
--   until_of g e d         the record of a run up to tick d: that of the instant d, or of the finish where that comes before
--   Stopped g e d m left wait fins    a run up to tick d has stopped: its record, and where all are finished their finish instants
--   end_of g e             the end of a whole run: the finish, and the finish instants, with zeros from N on
use Rattle.std.specs.Prelude.{◌≡◌, Bool, true, false, not, ◌&&◌, ◌||◌, ◌⊎◌, List, ℕ, ◌+◌, ◌≤◌, ◌<◌, min, get_or, length}
use Rattle.model.specs.Places.{pick, count, every, sum, padded}
use Rattle.model.specs.ListSchedule.{begin, chosen, leap, steps, Fair}
use Rattle.graph.specs.Model.{as_model}
use Rattle.graph.specs.declared.Graph.{Graph}
use Rattle.vset.specs.declared.Vset.{Vset}
use Rattle.vset.specs.Members.{is_in}
use Rattle.tick.specs.declared.Run.{Run}
use Rattle.tick.specs.Run.{MOST, left_of, state_of, awaited, record_for}
use Rattle.ready.specs.Ready.{some_left}
use Rattle.waiting.specs.Waiting.{Settled}
use Rattle.remains.specs.Remains.{place, TOP, LeastFrom}
use Rattle.leaps.specs.Finishes.{done_at, finish_at, finish_of}
use Rattle.leaps.specs.declared.Moment.{Moment}
use Rattle.leaps.specs.declared.Ended.{Ended}

pub record Work : Type 0 where
  pub run : Run
  pub least : ℕ
  pub busy : Vset
  pub behind : Vset
  pub finishes : List ℕ

abbrev pub work_of : Graph → Moment → List ℕ → List ℕ → List ℕ → Work
work_of g m left waiting finishes =
    record { run = record { n = g.n; instant = m.instant; left = left; ran = m.ran; waiting = waiting }; least = m.least; busy = m.busy; behind = m.behind; finishes = finishes }

pub record Timed (g : Graph) (left waiting : List ℕ) : Type 0 where
  pub long : length left ≡ 128
  pub short : (v : ℕ) → v < g.n → place left v ≤ get_or g.wcet v 0
  pub past : (v : ℕ) → g.n ≤ v → place left v ≡ 0
  pub numbers : waiting ≡ padded 128 (awaited (as_model g) (place left)) g.n

unfoldable pub stamped : List ℕ → (ℕ → Bool) → ℕ → ℕ → ℕ
stamped l p t v = pick (p v) t (get_or l v 0)

pub record Stamped (l : List ℕ) (p : ℕ → Bool) (t : ℕ) (new : List ℕ) : Type 0 where
  pub long : length new ≡ 128
  pub at : (v : ℕ) → v < 128 → get_or new v 0 ≡ stamped l p t v

unfoldable pub unfinished : Work → ℕ → Bool
unfinished w v = is_in w.busy v || is_in w.behind v

pub record Sound (g : Graph) (w : Work) : Type 0 where
  pub agrees : w.run.n ≡ g.n
  pub past : (v : ℕ) → g.n ≤ v → left_of w.run v ≡ 0
  pub fair : Fair (as_model g) (state_of w.run)
  pub in_time : w.run.instant + sum (left_of w.run) g.n ≤ MOST
  pub goes_on : (v : ℕ) → is_in w.run.ran v ≡ true → is_in w.busy v && not (is_in w.behind v) ≡ true
  pub fewest : LeastFrom (left_of w.run) (is_in w.run.ran) TOP w.least
  pub is_busy : (v : ℕ) → is_in w.busy v ≡ some_left w.run.left v
  pub settled : Settled g.edge g.edges w.run.waiting (is_in w.busy) w.behind
  pub long_left : length w.run.left ≡ 128
  pub long_finishes : length w.finishes ≡ 128

pub record Leapt (g : Graph) (room : ℕ) (old new : Work) : Type 0 where
  pub d : ℕ
  pub some : 0 < d
  pub no_further : d ≤ room
  pub enough : (v : ℕ) → chosen (as_model g) (state_of old.run) v ≡ true → d ≤ left_of old.run v
  pub moved : new.run ≡ record_for (as_model g) (old.run.instant + d) (leap (as_model g) d (state_of old.run))
  pub stamps : Stamped old.finishes (λ v. unfinished old v && not (unfinished new v)) new.run.instant new.finishes
  pub fewer : (count (is_in new.busy) 128 < count (is_in old.busy) 128) ⊎ (d ≡ room)
  pub sound : Sound g new

pub record Fresh (g : Graph) (r : Run) : Type 0 where
  pub agrees : r.n ≡ g.n
  pub at_start : r.instant ≡ 0
  pub short : (v : ℕ) → v < g.n → left_of r v ≤ get_or g.wcet v 0
  pub past : (v : ℕ) → g.n ≤ v → left_of r v ≡ 0
  pub unmarked : (v : ℕ) → is_in r.ran v ≡ false
  pub numbers : r.waiting ≡ padded 128 (awaited (as_model g) (left_of r)) g.n

pub record Kept (g : Graph) (e : ℕ → ℕ) (w : Work) : Type 0 where
  pub sound : Sound g w
  pub state : state_of w.run ≡ steps (as_model g) w.run.instant (begin e)
  pub spent : w.run.instant + sum (left_of w.run) g.n ≤ sum e g.n
  pub ended : (v : ℕ) → v < g.n → unfinished w v ≡ false
      → (get_or w.finishes v 0 ≤ w.run.instant) × (done_at (as_model g) e (get_or w.finishes v 0) v ≡ true)
  pub first : (v : ℕ) → v < g.n → unfinished w v ≡ false → (t : ℕ) → t < get_or w.finishes v 0 → done_at (as_model g) e t v ≡ false
  pub going : (v : ℕ) → v < g.n → unfinished w v ≡ true → (t : ℕ) → t ≤ w.run.instant → done_at (as_model g) e t v ≡ false
  pub blank : (v : ℕ) → g.n ≤ v → v < 128 → get_or w.finishes v 0 ≡ 0
  pub not_all : (t : ℕ) → t < w.run.instant → every (done_at (as_model g) e t) g.n ≡ false

abbrev pub record_at_of : Graph → (ℕ → ℕ) → ℕ → Run
record_at_of g e t = record_for (as_model g) t (steps (as_model g) t (begin e))

unfoldable pub until_of : Graph → (ℕ → ℕ) → ℕ → Run
until_of g e d = record_at_of g e (min d (finish_of (as_model g) e))

pub record Stopped (g : Graph) (e : ℕ → ℕ) (d : ℕ) (m : Moment) (left waiting finishes : List ℕ) : Type 0 where
  pub run : ◌≡◌ {A = Run} (record { n = g.n; instant = m.instant; left = left; ran = m.ran; waiting = waiting }) (until_of g e d)
  pub whole : finish_of (as_model g) e ≤ d → finishes ≡ padded 128 (finish_at (as_model g) e) g.n

unfoldable pub end_of : Graph → (ℕ → ℕ) → Ended
end_of g e = record { instant = finish_of (as_model g) e; finishes = padded 128 (finish_at (as_model g) e) g.n }
