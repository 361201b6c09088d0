-- The totals, from one table and one subtraction for each record.
--
-- A vertex that does not run has in its cell the ticks that it ran; one that runs has the instant of its start less the ticks that it ran
-- before. So the new cell is the record's instant less the old one, at a start and at a stop alike.
use mathlib.Core.Path.{◌≡◌, refl, sym, ◌∙◌}
use mathlib.Core.Logic.{◌⊎◌, inl, inr, ◌≢◌}
use mathlib.Core.Bool.{Bool, true, false}
use mathlib.Core.List.{List}
use Prim.Native.Nat.{ℕ, zero, suc, ◌+◌, ◌-◌, ◌≤◌, ◌<◌, zero-le}
use native.Mathlib.Numerals.{add-one}
use native.Mathlib.Omega.{arith}
use native.Mathlib.Decide.{ℕ_discrete}
use lib.ListN.{length, get_or, set, replicate, length-set, length-replicate}
use lib.Seq.{get_or-set_same, get_or-set_other}
use borrow.Author.Tests.{lt-ltb}
use Rattle.model.specs.Places.{pick, count}
use Rattle.model.proofs.Bools.{not-true}
use Rattle.model.proofs.Sums.{largest-within}
use Rattle.model.proofs.Tables.{zeros}
use Rattle.graph.specs.File.{records}
use Rattle.recorded.specs.Log.{is_start, is_stop, who, instant_at, running, InForm}
use Rattle.recorded.specs.Recorded.{last_instant, ran_ticks, total}
use Rattle.formed.specs.Passing.{clock_at, Clocked, TotalsOf}
use Rattle.recorded.proofs.Records.{fine-at, instants_rise, not-both, stopped}
use Rattle.recorded.proofs.Recording.{ran-all}
use Rattle.recorded.proofs.Finishing.{last-is}
use Rattle.recorded.proofs.Prefix.{ran_clock, running_none}
use Rattle.formed.proofs.Passing.{other, own}

pub clock_next-is : (l : List ℕ) (k : ℕ) → clock_at l (suc k) ≡ instant_at l k
unfolding clock_at
clock_next-is l k = let e : suc k - 1 ≡ k = omega arith in rw (lt-ltb 0 (suc k) (omega arith), e) refl

pub clock_zero : (l : List ℕ) → clock_at l 0 ≡ 0
unfolding clock_at
clock_zero l = refl

pub clock_plus : (l : List ℕ) (k : ℕ) → clock_at l (k + 1) ≡ instant_at l k
clock_plus l k = rw (add-one k) (clock_next-is l k)

pub clock_none : (n : ℕ) (l : List ℕ) → Clocked n l 0 (replicate 128 0)
unfolding clock_at ran_ticks count
clock_none n l = record {
  size = length-replicate {A = ℕ} 128 0;
  low = λ v h. omega (arith, zeros 128 v);
  ran = λ v h. rw (running_none l v, zeros 128 v) refl;
  past = λ v h. zeros 128 v;
}

module _ {n : ℕ} {l : List ℕ} (f : InForm n l) (few : n ≤ 128) where
  few_vertices : n ≤ 256
  few_vertices = omega arith

  module _ (k : ℕ) (h : k < records l) where
    -- the clock goes on
    pub clock_up : clock_at l k ≤ instant_at l k
    clock_up = go k h
      where
        go : (k : ℕ) → k < records l → clock_at l k ≤ instant_at l k
        go zero h = unfold clock_at in zero-le
        go (suc k) h = rw (clock_next-is l k) (instants_rise f few_vertices k (suc k) (omega arith) h)

    pub clock_before : (i : ℕ) → i < k → instant_at l i ≤ clock_at l k
    clock_before = go k h
      where
        go : (k : ℕ) → k < records l → (i : ℕ) → i < k → instant_at l i ≤ clock_at l k
        go zero h i b = absurd (omega arith)
        go (suc k) h i b = rw (clock_next-is l k) (at (ℕ_discrete i k))
          where
            at : Dec (i ≡ k) → instant_at l i ≤ instant_at l k
            at (yes q) = rw q (omega arith)
            at (no q) = instants_rise f few_vertices i k (omega arith) (omega arith)

    pub clock_after : (i : ℕ) → k ≤ i → i < records l → instant_at l k ≤ instant_at l i
    clock_after i a b = at (ℕ_discrete k i)
      where
        at : Dec (k ≡ i) → instant_at l k ≤ instant_at l i
        at (yes q) = rw q (omega arith)
        at (no q) = instants_rise f few_vertices k i (omega arith) b

    -- between two records a vertex runs in all ticks or in none
    pub ran_on : (v : ℕ) → ran_ticks l v (instant_at l k) ≡ ran_ticks l v (clock_at l k) + pick (running l k v) (instant_at l k - clock_at l k) 0
    ran_on v =
        let e : (instant_at l k - clock_at l k) + clock_at l k ≡ instant_at l k = omega (arith, clock_up) in
        rw e at (ran_clock l k v (clock_at l k) (instant_at l k - clock_at l k)
        (λ t a b. record { most = omega arith; before = λ i c. omega (arith, clock_before i c); after = λ i c d. omega (arith, clock_after i c d, e) }))

    module _ (cell : List ℕ) (c : Clocked n l k cell) where
      pub cell-low : get_or cell (who l k) 0 ≤ instant_at l k
      cell-low = omega (arith, c.low (who l k) (fine-at f k h).vertex, clock_up)

      -- another vertex
      ran-same : (v : ℕ) → v < n → v ≢ who l k
          → ran_ticks l v (instant_at l k) ≡ pick (running l (suc k) v) (instant_at l k - get_or cell v 0) (get_or cell v 0)
      ran-same v b x = rw (other (fine-at f k h) v x) (go (running l k v) (ran_on v) (c.ran v b))
        where
          go : (r : Bool) → ran_ticks l v (instant_at l k) ≡ ran_ticks l v (clock_at l k) + pick r (instant_at l k - clock_at l k) 0
              → ran_ticks l v (clock_at l k) ≡ pick r (clock_at l k - get_or cell v 0) (get_or cell v 0)
              → ran_ticks l v (instant_at l k) ≡ pick r (instant_at l k - get_or cell v 0) (get_or cell v 0)
          go true p q = omega (arith, p, q, clock_up, c.low v b)
          go false p q = omega (arith, p, q)

      -- the vertex of the record
      ran-own : ran_ticks l (who l k) (instant_at l k)
          ≡ pick (running l (suc k) (who l k)) (instant_at l k - (instant_at l k - get_or cell (who l k) 0)) (instant_at l k - get_or cell (who l k) 0)
      ran-own = go (fine-at f k h).known
        where
          b : who l k < n
          b = (fine-at f k h).vertex

          go : (is_start l k ≡ true) ⊎ (is_stop l k ≡ true) → ran_ticks l (who l k) (instant_at l k)
              ≡ pick (running l (suc k) (who l k)) (instant_at l k - (instant_at l k - get_or cell (who l k) 0)) (instant_at l k - get_or cell (who l k) 0)
          go (inl s) =
              let r : running l k (who l k) ≡ false = (fine-at f k h).start s in
              rw (own (fine-at f k h), s) (omega (arith, rw r at (ran_on (who l k)), rw r at (c.ran (who l k) b), cell-low))
          go (inr s) =
              let r : running l k (who l k) ≡ true = (fine-at f k h).stop s in
              let x : is_start l k ≡ false = not-true (is_start l k) (λ y. not-both l k y s) in
              rw (own (fine-at f k h), x) (omega (arith, rw r at (ran_on (who l k)), rw r at (c.ran (who l k) b), cell-low, clock_up, c.low (who l k) b))

      pub clock_next : Clocked n l (k + 1) (set cell (who l k) (instant_at l k - get_or cell (who l k) 0))
      clock_next = rw (add-one k) (record {
        size = length-set cell (who l k) _ ∙ c.size;
        low = λ v b. rw (clock_next-is l k) (low-at v b (ℕ_discrete v (who l k)));
        ran = λ v b. rw (clock_next-is l k) (ran-at v b (ℕ_discrete v (who l k)));
        past = λ v b. get_or-set_other cell (who l k) v _ 0 (λ q. omega (arith, (fine-at f k h).vertex)) ∙ c.past v b;
      })
        where
          new : ℕ
          new = instant_at l k - get_or cell (who l k) 0

          inside : who l k < length cell
          inside = omega (arith, (fine-at f k h).vertex, c.size)

          low-at : (v : ℕ) → v < n → Dec (v ≡ who l k) → get_or (set cell (who l k) new) v 0 ≤ instant_at l k
          low-at v b (yes q) = rw (q, get_or-set_same cell (who l k) new 0 inside) (omega arith)
          low-at v b (no q) = rw (get_or-set_other cell (who l k) v new 0 q) (omega (arith, c.low v b, clock_up))

          ran-at : (v : ℕ) → v < n → Dec (v ≡ who l k)
              → ran_ticks l v (instant_at l k) ≡ pick (running l (suc k) v) (instant_at l k - get_or (set cell (who l k) new) v 0) (get_or (set cell (who l k) new) v 0)
          ran-at v b (yes q) = rw (q, get_or-set_same cell (who l k) new 0 inside) ran-own
          ran-at v b (no q) = rw (get_or-set_other cell (who l k) v new 0 q) (ran-same v b q)

  -- at the end the clock is at the last instant
  pub clock_last : last_instant l ≡ clock_at l (records l)
  clock_last = go (records l) refl
    where
      go : (m : ℕ) → records l ≡ m → last_instant l ≡ clock_at l m
      go zero e = unfold last_instant clock_at in omega (arith, largest-within (instant_at l) 0 (records l) (λ i b. absurd (omega arith)))
      go (suc k) e = rw (clock_next-is l k) (last-is f few_vertices k e)

  -- there nothing runs, and the cells are the totals
  pub clock_end : (cell : List ℕ) → Clocked n l (records l) cell → TotalsOf n l cell
  clock_end cell c = record { size = c.size; at = λ v b. sym (rw (ended v) at (c.ran v b)) ∙ all v; past = c.past }
    where
      ended : (v : ℕ) → running l (records l) v ≡ false
      ended v = not-true (running l (records l) v) (λ e. stopped f v e)

      last : last_instant l ≤ clock_at l (records l)
      last = omega (arith, clock_last)

      all : (v : ℕ) → ran_ticks l v (clock_at l (records l)) ≡ total l v
      all v = ran-all f (clock_at l (records l)) v last
