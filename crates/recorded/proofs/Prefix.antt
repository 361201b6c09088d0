-- For a pass over the records: what one record changes, and what a tick has of the records before it.
--
--   running-step    who runs after one record more
--   runs_prefix     a tick has those running that run after the records up to its instant
--   ran_clock       between two instants with no record strictly between them, a vertex ran all the ticks or none
use mathlib.Core.Path.{◌≡◌}
use mathlib.Core.Logic.{⊎_elim}
use mathlib.Core.Bool.{Bool, true, false, not, ◌&&◌, ◌||◌}
use mathlib.Core.List.{List}
use Prim.Native.Nat.{ℕ, zero, suc, ◌+◌, ◌≤◌, ◌<◌}
use native.Mathlib.Omega.{arith}
use native.Mathlib.Decide.{ℕ_discrete}
use Rattle.model.specs.Places.{pick, bit, count}
use Rattle.model.proofs.Bools.{clash, le-or-lt, both, left-of, right_of, or_left, or_right, or_cases, not-true, true-not, not-is-true, same_test}
use Rattle.graph.specs.File.{records}
use Rattle.recorded.specs.Log.{instant_at, starts, stops, running}
use Rattle.recorded.specs.Recorded.{runs_in, ran_ticks}
use Rattle.recorded.proofs.Records.{Lasting, running_elim, running_intro, start_of, of-start}
use Rattle.recorded.proofs.Recording.{Runs, runs_elim, runs_intro}

pub running_none : (l : List ℕ) (v : ℕ) → running l 0 v ≡ false
running_none l v = not-true (running l 0 v) (λ e. omega (arith, (running_elim l 0 v e).within))

pub running-step : (l : List ℕ) (k v : ℕ) → running l (suc k) v ≡ starts l v k || (running l k v && not (stops l v k))
running-step l k v = same_test (running l (suc k) v) (starts l v k || (running l k v && not (stops l v k)))
    (λ e. forth (running_elim l (suc k) v e))
    (λ e. ⊎_elim here (λ x. back (running_elim l k v (left-of (running l k v) _ x)) (not-is-true (stops l v k) (right_of (running l k v) _ x)))
    (or_cases (starts l v k) (running l k v && not (stops l v k)) e))
  where
    forth : Lasting (starts l v) (stops l v) (suc k) → starts l v k || (running l k v && not (stops l v k)) ≡ true
    forth r = go (ℕ_discrete r.from k)
      where
        go : Dec (r.from ≡ k) → starts l v k || (running l k v && not (stops l v k)) ≡ true
        go (yes q) = or_left (starts l v k) _ (rw q at r.is)
        go (no q) = or_right (starts l v k) (running l k v && not (stops l v k)) (both (running l k v) (not (stops l v k))
            (running_intro l k v (record { from = r.from; within = omega (arith, r.within); is = r.is; on = λ j a b. r.on j a (omega arith) }))
            (true-not (stops l v k) (r.on k (omega (arith, r.within)) (omega arith))))

    here : starts l v k ≡ true → running l (suc k) v ≡ true
    here e = running_intro l (suc k) v (record { from = k; within = omega arith; is = e; on = λ j a b. absurd (omega arith) })

    back : Lasting (starts l v) (stops l v) k → stops l v k ≡ false → running l (suc k) v ≡ true
    back r x = running_intro l (suc k) v (record { from = r.from; within = omega (arith, r.within); is = r.is; on = λ j a b. on j a b (ℕ_discrete j k) })
      where
        on : (j : ℕ) → r.from < j → j < suc k → Dec (j ≡ k) → stops l v j ≡ false
        on j a b (yes q) = rw q x
        on j a b (no q) = r.on j a (omega arith)

-- the tick t has the first k records behind it, and no other
pub record Behind (l : List ℕ) (t k : ℕ) : Type 0 where
  pub most : k ≤ records l
  pub before : (i : ℕ) → i < k → instant_at l i ≤ t
  pub after : (i : ℕ) → k ≤ i → i < records l → t < instant_at l i

pub runs_prefix : (l : List ℕ) (t k v : ℕ) → Behind l t k → runs_in l t v ≡ running l k v
runs_prefix l t k v h = same_test (runs_in l t v) (running l k v) (λ e. forth (runs_elim l t v e)) (λ e. back (running_elim l k v e))
  where
    forth : Runs l t v → running l k v ≡ true
    forth r = running_intro l k v (record {
      from = r.from;
      within = ⊎_elim (λ (m : k ≤ r.from). absurd (omega (arith, h.after r.from m r.within, r.begun))) (λ m. m) (le-or-lt k r.from);
      is = of-start l v r.from r.start r.whose;
      on = λ j a b. not-true (stops l v j) (λ x. omega (arith, r.on j a (omega (arith, h.most)) x, h.before j b));
    })

    back : Lasting (starts l v) (stops l v) k → runs_in l t v ≡ true
    back r =
        let w = start_of l v r.from r.is in
        runs_intro l t v (record {
          from = r.from;
          within = omega (arith, r.within, h.most);
          start = w.0;
          whose = w.1;
          begun = h.before r.from r.within;
          on = λ j a b x. ⊎_elim (λ (m : k ≤ j). h.after j m b) (λ (m : j < k). absurd (clash x (r.on j a m))) (le-or-lt k j);
        })

-- from the instant a to the instant b: the first k records are at or before a, and the others at or after b
pub ran_clock : (l : List ℕ) (k v a d : ℕ) → ((t : ℕ) → a ≤ t → t < d + a → Behind l t k)
    → ran_ticks l v (d + a) ≡ ran_ticks l v a + pick (running l k v) d 0
unfolding ran_ticks count
ran_clock l k v a zero h = let e : 0 + a ≡ a = omega arith in rw e (go (running l k v))
  where
    go : (b : Bool) → count (λ i. runs_in l i v) a ≡ count (λ i. runs_in l i v) a + pick b 0 0
    go true = omega arith
    go false = omega arith
ran_clock l k v a (suc d) h =
    let e : suc d + a ≡ suc (d + a) = omega arith in
    rw (e, runs_prefix l (d + a) k v (h (d + a) (omega arith) (omega arith)))
    (go (running l k v) (ran_clock l k v a d (λ t x y. h t x (omega arith))))
  where
    go : (b : Bool) → count (λ i. runs_in l i v) (d + a) ≡ count (λ i. runs_in l i v) a + pick b d 0
        → count (λ i. runs_in l i v) (d + a) + bit b ≡ count (λ i. runs_in l i v) a + pick b (suc d) 0
    go true ih = omega arith
    go false ih = omega arith
