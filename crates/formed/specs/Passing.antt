-- For our own layers alone: no contract for callers and no claim cites this file.
--
-- What a pass over the records of a log has at record k. `l` is the log, n how many vertices there are.
--
--   least_key l k            the lowest key that record k may have: one above the key before it
--   fault_by n l k on least  record k is at fault, where `on` tells whether its vertex runs before it, and least is that key
--   MetBy l k p             p holds what a pass has met before record k: who runs, and the lowest key of record k
--   FoundBy n l r           r is who runs at the end, where no record is at fault; or the first record at fault
--   form_of n l              the answer of 18 alone
--   clock_at l k             the instant of the record before record k
--   Clocked n l k cells     for each vertex that does not run after k records the ticks it ran; for one that runs, its start less those
--   TotalsOf n l r          r holds the totals
--   last_of l v k            one more than the last of the first k records that is of v, or 0
--   Lasted l k lasts        the list has these numbers
--   SpentBy n l r           r holds the totals, and the last records
use Rattle.std.specs.Prelude.{◌≡◌, Bool, not, ◌&&◌, ◌||◌, List, ℕ, suc, ◌+◌, ◌-◌, ◌≤◌, ◌<◌, length, get_or, eqb, ltb, leb, Result, Ok, Err}
use Rattle.model.specs.Places.{pick, first, largest}
use Rattle.graph.specs.File.{records, byte_at}
use Rattle.graph.specs.Answer.{Answer}
use Rattle.graph.specs.Answer.{Accepted, Refused}
use Rattle.vset.specs.Members.{Members}
use Rattle.recorded.specs.Log.{is_start, is_stop, who, instant_at, key, running, fault, wrong_length_of, unended}
use Rattle.recorded.specs.Recorded.{ran_ticks, total}
use Rattle.formed.specs.declared.Met.{Met}
use Rattle.vset.specs.declared.Vset.{Vset}
use Rattle.formed.specs.declared.Spent.{Spent}

unfoldable pub least_key : List ℕ → ℕ → ℕ
least_key l k = pick (ltb 0 k) (key l (k - 1) + 1) 0

unfoldable pub fault_by : ℕ → List ℕ → ℕ → Bool → ℕ → Bool
fault_by n l k on least =
    not (is_start l k || is_stop l k)
    || (leb n (who l k)
    || ((not (eqb (byte_at l k 2) 0) || not (eqb (byte_at l k 3) 0))
    || (ltb (key l k) least || ((is_start l k && on) || ((is_stop l k && not on) || ltb 128000000 (instant_at l k))))))

pub record MetBy (l : List ℕ) (k : ℕ) (p : Met) : Type 0 where
  pub on_are : Members p.on (running l k)
  pub least_is : p.least ≡ least_key l k

abbrev pub FoundBy : ℕ → List ℕ → Result Vset ℕ → Type 0
FoundBy n l (Ok on) = (first (fault n l) (records l) ≡ records l) × Members on (running l (records l))
FoundBy n l (Err k) = (first (fault n l) (records l) ≡ k) × (k < records l)

unfoldable pub form_of : ℕ → List ℕ → Answer
form_of n l =
    pick (wrong_length_of l) (Refused (record { number = 18; place = 0 }))
    (pick (ltb (first (fault n l) (records l)) (records l)) (Refused (record { number = 18; place = first (fault n l) (records l) }))
    (pick (unended n l) (Refused (record { number = 18; place = 0 })) Accepted))

unfoldable pub clock_at : List ℕ → ℕ → ℕ
clock_at l k = pick (ltb 0 k) (instant_at l (k - 1)) 0

pub record Clocked (n : ℕ) (l : List ℕ) (k : ℕ) (cells : List ℕ) : Type 0 where
  pub size : length cells ≡ 128
  pub low : (v : ℕ) → v < n → get_or cells v 0 ≤ clock_at l k
  pub ran : (v : ℕ) → v < n → ran_ticks l v (clock_at l k) ≡ pick (running l k v) (clock_at l k - get_or cells v 0) (get_or cells v 0)
  pub past : (v : ℕ) → n ≤ v → get_or cells v 0 ≡ 0

pub record TotalsOf (n : ℕ) (l r : List ℕ) : Type 0 where
  pub size : length r ≡ 128
  pub at : (v : ℕ) → v < n → get_or r v 0 ≡ total l v
  pub past : (v : ℕ) → n ≤ v → get_or r v 0 ≡ 0

unfoldable pub last_of : List ℕ → ℕ → ℕ → ℕ
last_of l v k = largest (λ i. pick (eqb (who l i) v) (suc i) 0) k

pub record Lasted (l : List ℕ) (k : ℕ) (lasts : List ℕ) : Type 0 where
  pub size : length lasts ≡ 128
  pub at : (v : ℕ) → v < 128 → get_or lasts v 0 ≡ last_of l v k

pub record SpentBy (n : ℕ) (l : List ℕ) (r : Spent) : Type 0 where
  pub totals : TotalsOf n l r.totals
  pub lasts : Lasted l (records l) r.lasts
