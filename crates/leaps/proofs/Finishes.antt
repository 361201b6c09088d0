-- What a whole run computes is what the words mean: the finish instants and the finish of the list schedule.
use mathlib.Core.Path.{◌≡◌, sym, ◌∙◌}
use mathlib.Core.Logic.{⊎_elim}
use mathlib.Core.Bool.{Bool, true}
use Prim.Native.Nat.{ℕ, ◌*◌, ◌≤◌, ◌<◌}
use native.Mathlib.Omega.{arith}
use lib.Dec.{leb}
use borrow.Author.Tests.{le-leb, lt-leb}
use Rattle.model.specs.Places.{first, every, sum}
use Rattle.model.specs.Graph.{Graph, WellFormed}
use Rattle.model.specs.Cycle.{Acyclic}
use Rattle.model.specs.Bounds.{PARTS, NewB1}
use Rattle.model.specs.Schedule.{Schedule, left, Times, Finished, FinishOf, AllFinished, Finish}
use Rattle.model.specs.ListSchedule.{begin, steps, list_schedule}
use Rattle.model.proofs.Bools.{clash, le-or-lt}
use Rattle.model.proofs.Places.{every-at, every_intro}
use Rattle.model.proofs.Tests.{finished-tells}
use Rattle.model.proofs.Tick.{all_by}
use Rattle.model.proofs.Listed.{left-steps, list_works, list_demand_3}
use Rattle.model.proofs.Places.{first-le, first_below, first-here}
use Rattle.leaps.specs.Finishes.{done_at, finish_at, finish_of}

module _ {G : Graph} (W : WellFormed G) (A : Acyclic G) (e : ℕ → ℕ) where
  abbrev S : Schedule
  S = list_schedule G e

  told : (t v : ℕ) → v < G.n → done_at G e t v ≡ true → Finished G (left S t) v
  unfolding done_at
  told t v l d = rw (left-steps G e t) ((finished-tells W (steps G t (begin e)).rest A).sound v l d)

  tells : (t v : ℕ) → v < G.n → Finished G (left S t) v → done_at G e t v ≡ true
  unfolding done_at
  tells t v l f = (finished-tells W (steps G t (begin e)).rest A).complete v l (rw (left-steps G e t) at f)

  -- all is finished when as many ticks have gone by as there were in all
  all-ended : AllFinished G S (sum e G.n)
  unfolding list_schedule
  all-ended = all_by W A (list_works W A e)

  -- THEOREM. The instant of each vertex is its finish instant in the list schedule.
  pub finish-of-vertex : (v : ℕ) → v < G.n → FinishOf G S v (finish_at G e v)
  unfolding finish_at
  finish-of-vertex v l = record {
    there = ⊎_elim
        (λ (h : sum e G.n ≤ first p (sum e G.n)).
        let q : first p (sum e G.n) ≡ sum e G.n = omega (arith, first-le p (sum e G.n)) in rw q (all-ended v l))
        (λ (h : first p (sum e G.n) < sum e G.n). told (first p (sum e G.n)) v l (first-here p (sum e G.n) h))
        (le-or-lt (sum e G.n) (first p (sum e G.n)));
    first = λ t h f. clash (tells t v l f) (first_below p (sum e G.n) t h);
  }
    where
      p : ℕ → Bool
      p t = done_at G e t v

  -- THEOREM. What a whole run returns is the finish of the list schedule.
  pub finish-of-all : Finish G S (finish_of G e)
  unfolding finish_of
  finish-of-all = record {
    all = ⊎_elim
        (λ (h : sum e G.n ≤ first p (sum e G.n)).
        let q : first p (sum e G.n) ≡ sum e G.n = omega (arith, first-le p (sum e G.n)) in rw q all-ended)
        (λ (h : first p (sum e G.n) < sum e G.n).
        λ v l. told (first p (sum e G.n)) v l (every-at (done_at G e (first p (sum e G.n))) G.n (first-here p (sum e G.n) h) v l))
        (le-or-lt (sum e G.n) (first p (sum e G.n)));
    first = λ t h a. clash (every_intro (done_at G e t) G.n (λ v l. tells t v l (a v l))) (first_below p (sum e G.n) t h);
  }
    where
      p : ℕ → Bool
      p t = every (done_at G e t) G.n

  -- up to the finish, all is finished exactly at the finish
  pub all_done : (t : ℕ) → t ≤ finish_of G e → every (done_at G e t) G.n ≡ leb (finish_of G e) t
  unfolding finish_of
  all_done t l =
      ⊎_elim
      (λ (h : finish_of G e ≤ t).
      let q : t ≡ finish_of G e = omega arith in
      rw q (every_intro (done_at G e (finish_of G e)) G.n (λ v b. tells (finish_of G e) v b (finish-of-all.all v b))) ∙ sym (le-leb (finish_of G e) t h))
      (λ (h : t < finish_of G e). first_below (λ t. every (done_at G e t) G.n) (sum e G.n) t h ∙ sym (lt-leb (finish_of G e) t h))
      (le-or-lt (finish_of G e) t)

  -- THEOREM (demand 3). The finish is at or before NEW-B-1.
  pub finish-below-new : Times G e → (B : ℕ) → NewB1 G B → finish_of G e * PARTS ≤ B
  finish-below-new h B b = (list_demand_3 W A e h B b).within (finish_of G e) finish-of-all
