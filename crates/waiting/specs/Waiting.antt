-- For our own layers alone: no contract for callers and no claim cites this file.
--
-- Each vertex's number of unfinished predecessors, counted over the edge list. A vertex stands behind an unfinished one just where its
-- number is not 0. While finished vertices still have to tell their successors, they count as unfinished.
--
--   entering l p m v                   how many of the first m edges of l lead to v from a vertex for which p holds
--   leading l a b v                    how many of the edges from place a up to b lead to v
--   edges_by starts                     the number of edges, by where the edges of each vertex begin
--   Layout l starts                    l is a list of edges without a cycle, and `starts` says where the edges of each vertex begin
--   Released w v busy s new r          one unfinished predecessor less for v
--   Told l a b w busy s new r          the same along the edges from place a up to b
--   Unsettled l m w busy behind done   the numbers, where those in `done` have not told their successors
--   Settled l m w busy behind          the numbers, where nobody has anything left to tell
--   self_counted p w busy behind        the numbers agree with themselves: each counts those in its row of the table p that are busy or stand behind
use Rattle.std.specs.Prelude.{◌≡◌, Bool, true, false, not, ◌&&◌, ◌||◌, List, ℕ, ◌-◌, ◌≤◌, ◌<◌, eqb, ltb, leb, get_or, length, set}
use Rattle.model.specs.Places.{count, every, table}
use Rattle.vset.specs.declared.Vset.{Vset}
use Rattle.vset.specs.Members.{is_in, Members}
use Rattle.starts.specs.Starts.{comes_from, leads_to, start_in}
use Rattle.sets.specs.Sets.{row_of}
use Rattle.waiting.specs.declared.News.{News}

unfoldable pub entering : List ℕ → (ℕ → Bool) → ℕ → ℕ → ℕ
entering l p m v = count (λ i. p (comes_from l i) && eqb (leads_to l i) v) m

unfoldable pub leading : List ℕ → ℕ → ℕ → ℕ → ℕ
leading l a b v = count (λ i. leb a i && eqb (leads_to l i) v) b

abbrev pub edges_by : List ℕ → ℕ
edges_by starts = get_or starts 128 0

pub record Layout (l starts : List ℕ) : Type 0 where
  pub few : edges_by starts ≤ 1024
  pub begin : starts ≡ table (start_in l (edges_by starts)) 129
  pub known : (i : ℕ) → i < edges_by starts → (comes_from l i < 128) × (leads_to l i < 128)
  pub together : (i j : ℕ) → i ≤ j → j < edges_by starts → comes_from l i ≤ comes_from l j
  pub rank : ℕ → ℕ
  pub rises : (i : ℕ) → i < edges_by starts → rank (comes_from l i) < rank (leads_to l i)

pub record Released (w : List ℕ) (v : ℕ) (busy : ℕ → Bool) (s : News) (new : List ℕ) (r : News) : Type 0 where
  pub less : new ≡ set w v (get_or w v 0 - 1)
  pub behind : Members r.behind (λ k. is_in s.behind k && not (eqb (get_or w v 0) 1 && eqb k v))
  pub done : Members r.done (λ k. is_in s.done k || ((eqb (get_or w v 0) 1 && not (busy v)) && eqb k v))

pub record Told (l : List ℕ) (a b : ℕ) (w : List ℕ) (busy : ℕ → Bool) (s : News) (new : List ℕ) (r : News) : Type 0 where
  pub long : length new ≡ 128
  pub less : (v : ℕ) → get_or new v 0 ≡ get_or w v 0 - leading l a b v
  pub behind : Members r.behind (λ v. ltb 0 (get_or new v 0))
  pub done : Members r.done (λ v. is_in s.done v || ((ltb 0 (get_or w v 0) && eqb (get_or new v 0) 0) && not (busy v)))

pub record Unsettled (l : List ℕ) (m : ℕ) (w : List ℕ) (busy behind done : ℕ → Bool) : Type 0 where
  pub long : length w ≡ 128
  pub counts : (v : ℕ) → v < 128 → get_or w v 0 ≡ entering l (λ u. (busy u || behind u) || done u) m v
  pub stand : (v : ℕ) → behind v ≡ ltb 0 (get_or w v 0)
  pub apart : (v : ℕ) → done v ≡ true → busy v || behind v ≡ false

pub record Settled (l : List ℕ) (m : ℕ) (w : List ℕ) (busy : ℕ → Bool) (behind : Vset) : Type 0 where
  pub long : length w ≡ 128
  pub counts : (v : ℕ) → v < 128 → get_or w v 0 ≡ entering l (λ u. busy u || is_in behind u) m v
  pub stand : Members behind (λ v. ltb 0 (get_or w v 0))

unfoldable pub self_counted : List (List ℕ) → List ℕ → (ℕ → Bool) → (ℕ → Bool) → Bool
self_counted p w busy behind = every (λ v. eqb (get_or w v 0) (count (λ u. is_in (row_of p v) u && (busy u || behind u)) 128)) 128
