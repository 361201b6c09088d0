-- Which core: a schedule of the model counts cores, and a log says who runs; here each stretch of a log in form gets a core of its kind. `l` is
-- the log, n how many vertices there are, `kind` the kind of each vertex, `cores` the cores of each kind, k how many records are passed.
--
-- A vertex that starts takes the lowest free core of its kind. One that stops and starts again at the same instant runs on, and keeps its
-- core: all stops of an instant stand before its starts, so the core is not free for another that starts there.
--
--   starts_later l k i             record i is a start of record k's vertex, later in the log and at the same instant
--   runs_on_of l k                    the vertex of record k starts at the record's instant, in a later record
--   has_core l k v                 after k records v has a core: it runs, or it has stopped and runs on
--   taken has core kind n s j     core j of the kind s is that of a vertex that has one
--   core_of n l kind cores k v     the core that v got last, within the first k records
--   lanes_of n l kind cores        the list: for each record the core of its vertex, at a start from there on, at a stop up to there
--   last_that p m                  the last place below m at which p holds, or 0
--   core_in l out t v              the core of v in the tick t by the list `out`: that of its last start at or before t
--   Fits n l kind cores           in no tick do more vertices of a kind run than it has cores
--   Named l kind cores out        `out` names cores as it should: cores that there are, one vertex to a core, and one core for as long as a vertex
--                                 runs on                              (proofs/Naming: where the log fits, lanes_of does)
--   placing_of G l out             the log's schedule with these names, as a placing of the model
--                                                                      (proofs/Given: a list that names cores as it should leaves none idle)
use Rattle.std.specs.Prelude.{◌≡◌, Bool, true, false, not, ◌&&◌, ◌||◌, List, ℕ, zero, suc, ◌≤◌, ◌<◌, length, get_or, eqb, ltb}
use Rattle.model.specs.Places.{pick, any, first, count, largest, table}
use Rattle.model.specs.Graph.{Graph}
use Rattle.model.specs.Placing.{Placing}
use Rattle.graph.specs.File.{records}
use Rattle.recorded.specs.Log.{is_start, is_stop, who, instant_at, starts}
use Rattle.recorded.specs.Recorded.{started_by, runs_in, total}

-- ---- the list

unfoldable pub starts_later : List ℕ → ℕ → ℕ → Bool
starts_later l k i = ltb k i && (starts l (who l k) i && eqb (instant_at l i) (instant_at l k))

unfoldable pub runs_on_of : List ℕ → ℕ → Bool
runs_on_of l k = any (starts_later l k) (records l)

unfoldable pub has_core : List ℕ → ℕ → ℕ → Bool
has_core l zero v = false
has_core l (suc k) v = pick (eqb v (who l k)) (is_start l k || runs_on_of l k) (has_core l k v)

unfoldable pub taken : (ℕ → Bool) → (ℕ → ℕ) → (ℕ → ℕ) → ℕ → ℕ → ℕ → Bool
taken has core kind n s j = any (λ u. (has u && eqb (kind u) s) && eqb j (core u)) n

unfoldable pub core_of : ℕ → List ℕ → (ℕ → ℕ) → (ℕ → ℕ) → ℕ → ℕ → ℕ
core_of n l kind cores zero v = 0
core_of n l kind cores (suc k) v =
    pick (starts l v k && not (has_core l k v))
    (first (λ j. not (taken (has_core l k) (core_of n l kind cores k) kind n (kind v) j)) (cores (kind v)))
    (core_of n l kind cores k v)

unfoldable pub lanes_of : ℕ → List ℕ → (ℕ → ℕ) → (ℕ → ℕ) → List ℕ
lanes_of n l kind cores = table (λ k. core_of n l kind cores (suc k) (who l k)) (records l)

-- ---- what it is for a list to name cores

unfoldable pub last_that : (ℕ → Bool) → ℕ → ℕ
last_that p m = largest (λ i. pick (p i) i 0) m

unfoldable pub core_in : List ℕ → List ℕ → ℕ → ℕ → ℕ
core_in l out t v = get_or out (last_that (started_by l v t) (records l)) 0

abbrev pub Fits : ℕ → List ℕ → (ℕ → ℕ) → (ℕ → ℕ) → Type 0
Fits n l kind cores = (t v : ℕ) → v < n → count (λ u. runs_in l t u && eqb (kind u) (kind v)) n ≤ cores (kind v)

pub record Named (l : List ℕ) (kind cores : ℕ → ℕ) (out : List ℕ) : Type 0 where
  pub long : length out ≡ records l
  pub within : (k : ℕ) → k < records l → get_or out k 0 < cores (kind (who l k))
  -- no core has two vertices at once
  pub apart : (t u v : ℕ) → runs_in l t u ≡ true → runs_in l t v ≡ true → kind u ≡ kind v → core_in l out t u ≡ core_in l out t v → u ≡ v
  -- a vertex that runs on keeps its core
  pub keeps : (t v : ℕ) → runs_in l t v ≡ true → runs_in l (suc t) v ≡ true → core_in l out (suc t) v ≡ core_in l out t v
  -- a stop has the core of its stretch: that of the vertex's last start before it
  pub freed : (k : ℕ) → k < records l → is_stop l k ≡ true → get_or out k 0 ≡ get_or out (last_that (starts l (who l k)) k) 0

unfoldable pub placing_of : Graph → List ℕ → List ℕ → Placing
placing_of G l out = record {
  time = total l;
  on = λ t s j v. (runs_in l t v && eqb (G.kind v) s) && eqb j (core_in l out t v);
}
