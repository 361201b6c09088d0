-- Order 8, "Stop searching the edges each tick": "Put each vertex's number of them into the run record, and have every tick keep it true. Start,
-- tick, whole run and order 5 use the stored numbers; finishes and marks are proved the same. Refusals: 16 also covers a record whose stored
-- numbers disagree with its remainders, or are not zero from N on."
--
-- Said over the contracts of the entries (specs/Entries). A record suits (`Suits`, of the crate tick) where document 01's sentences hold, as they
-- stood before this order (`SuitsBefore`), and this order's (`NumbersRight`). That whole runs and order 5 give what they gave is demand 2 (`run_is`)
-- and order 5, whose statements are as they were; what the record had before is stated in this file alone, for comparison.
--
--   Sized r              the table of remainders has 128 places, as that of every record that is handed over has
--   RunBefore            the run record before this order
--   before r             what a record holds of it
--   record_before n t s   the record of the state s of n vertices at the instant t, as it was
--   TickedBefore         what a tick reported and handed back
--   ticked_before g b     the tick of a record that suits, as it was
use mathlib.Core.Path.{◌≡◌, refl, sym, ap, ◌∙◌, subst}
use mathlib.Core.Logic.{◌⊎◌, inl, inr, ⊎_elim, ◌↔◌}
use mathlib.Core.List.{List}
use mathlib.Core.Bool.{Bool, true, false, not, ◌&&◌}
use Prim.Native.Nat.{ℕ, ◌+◌, ◌≤◌, ◌<◌, min}
use native.Mathlib.Omega.{arith}
use lib.ListN.{get_or, length}
use Rattle.model.specs.Places.{pick, count, every, padded, Tells}
use Rattle.model.specs.Graph.{Edge}
use Rattle.model.specs.Schedule.{Finished}
use Rattle.model.specs.ListSchedule.{State, finished, begin, step, steps}
use Rattle.model.proofs.Bools.{cases, clash, le-or-lt, both, true-not, not-true, not-is-true, right_of, same_test}
use Rattle.model.proofs.Places.{count_ext, count_none, none-counted}
use Rattle.model.proofs.Tests.{finished-tells}
use Rattle.graph.specs.Model.{as_model, AcceptedGraph}
use Rattle.graph.specs.Judge.{read_of}
use Rattle.graph.specs.declared.Graph.{Graph}
use Rattle.graph.specs.Answer.{Taken}
use Rattle.graph.specs.Answer.{Accepted}
use Rattle.graph.proofs.Accepted as reader
use Rattle.vset.specs.declared.Vset.{Vset}
use Rattle.vset.specs.Members.{is_in, set_of}
use Rattle.tick.specs.declared.Run.{Run}
use Rattle.tick.specs.Report.{Report}
use Rattle.tick.specs.Report.{Moved, Done, Refused as NoTick}
use Rattle.tick.specs.declared.Ticked.{Ticked}
use Rattle.tick.specs.Run.{left_of, waiting_of, state_of, awaited, record_for, over, ticked_of}
use Rattle.tick.specs.Suits.{SuitsBefore, NumbersRight, Suits, suits_before, suits}
use Rattle.tick.proofs.Awaited.{awaited-most}
use Rattle.tick.proofs.Records.{record-numbers}
use Rattle.tick.proofs.Suiting.{before-sound, before-complete, suits-sound, suits-complete}
use Rattle.times.specs.Times.{times_of, judge_times}
use Rattle.times.proofs.Fits.{times_fit, none_past}
use Rattle.leaps.specs.Finishes.{finish_of}
use Rattle.leaps.specs.Leaps.{Fresh, record_at_of, until_of}
use Rattle.leaps.proofs.Instants.{state-at, left-start, fresh_start}
use Rattle.schedule.specs.Start.{started_on}
use Rattle.schedule.specs.Tick.{tick_on_of}
use Rattle.schedule.specs.Start.{Started}
use Rattle.schedule.proofs.Answers.{start-accepted, tick-accepted}
use Rattle.schedule.proofs.TickByTick.{start-suits, next-suits}
use Rattle.claims.specs.Claims.{Bytes, at_0, run_at}
use Rattle.claims.specs.Entries.{ReadGives, StartGives, TickGives, TickInPlaceGives, UntilGives}
use Rattle.claims.proofs.Entries.{read-given, start-given, tick-given, tick_in_place-given}
use Rattle.claims.proofs.Demand1 as demand

abbrev pub Sized : Run → Type 0
Sized r = length r.left ≡ 128

-- ---- what the record was

pub record RunBefore : Type 0 where
  pub n : ℕ
  pub instant : ℕ
  pub left : List ℕ
  pub ran : Vset

abbrev pub before : Run → RunBefore
before r = record { n = r.n; instant = r.instant; left = r.left; ran = r.ran }

abbrev pub record_before : ℕ → ℕ → State → RunBefore
record_before n t s = record { n = n; instant = t; left = padded 128 s.rest n; ran = set_of s.ran }

pub record TickedBefore : Type 0 where
  pub report : Report
  pub run : RunBefore

unfoldable pub ticked_before : Graph → RunBefore → TickedBefore
ticked_before g b =
    pick (every (finished (as_model g) (λ v. get_or b.left v 0)) g.n)
    (record { report = Done; run = b })
    (record { report = Moved; run = record_before b.n (b.instant + 1) (step (as_model g) (record { rest = λ v. get_or b.left v 0; ran = is_in b.ran })) })

-- ---- of an accepted file

module _ {s : List ℕ} {t : Taken} (bytes : Bytes s) (R : ReadGives s t) (ok : t.answer ≡ Accepted) where
  A : AcceptedGraph t.graph
  A = rw (read-given R) (reader.taken s bytes (sym (ap (λ (z : Taken). z.answer) (read-given R)) ∙ ok))

  tick-on : {r : Run} {y : Ticked} → TickGives s r y → y ≡ tick_on_of t.graph r
  tick-on {r} h = tick-given h ∙ tick-accepted s t (read-given R) ok r

  -- ---- what is stored

  -- THEOREM. Right numbers are those of direct predecessors that are unfinished by the remainders: counted by any test that tells which vertices
  -- are finished. A vertex with nothing left behind an unfinished one is unfinished.
  pub stored_are : {r : Run} → NumbersRight t.graph r → (done : ℕ → Bool) → Tells t.graph.n (Finished (as_model t.graph) (left_of r)) done
      → (v : ℕ) → v < t.graph.n → waiting_of r v ≡ count (λ u. (as_model t.graph).edge u v && not (done u)) t.graph.n
  unfolding awaited as_model
  stored_are {r} N done T v l =
      N.counted v l
      ∙ count_ext (λ u. (as_model t.graph).edge u v && not (finished (as_model t.graph) (left_of r) u)) (λ u. (as_model t.graph).edge u v && not (done u)) t.graph.n
      (λ u h. ap (λ (b : Bool). (as_model t.graph).edge u v && not b) (same_test (finished (as_model t.graph) (left_of r) u) (done u)
      (λ x. T.complete u h ((finished-tells A.well_formed (left_of r) A.acyclic).sound u h x))
      (λ x. (finished-tells A.well_formed (left_of r) A.acyclic).complete u h (T.sound u h x))))

  -- THEOREM. So one is 0 exactly where every direct predecessor is finished.
  pub stored_zero : {r : Run} → NumbersRight t.graph r → (v : ℕ) → v < t.graph.n
      → (waiting_of r v ≡ 0) ↔ ((u : ℕ) → Edge (as_model t.graph) u v → Finished (as_model t.graph) (left_of r) u)
  unfolding awaited as_model
  stored_zero {r} N v l = (
    λ z u e.
        let h = A.well_formed.from u v e in
        ⊎_elim
        (λ x. (finished-tells A.well_formed (left_of r) A.acyclic).sound u h x)
        (λ (x : finished (as_model t.graph) (left_of r) u ≡ false).
        absurd (clash (both ((as_model t.graph).edge u v) (not (finished (as_model t.graph) (left_of r) u)) e (true-not (finished (as_model t.graph) (left_of r) u) x))
        (none-counted (λ u. (as_model t.graph).edge u v && not (finished (as_model t.graph) (left_of r) u)) t.graph.n (sym (N.counted v l) ∙ z) u h)))
        (cases (finished (as_model t.graph) (left_of r) u)),
    λ f.
        N.counted v l
        ∙ count_none (λ u. (as_model t.graph).edge u v && not (finished (as_model t.graph) (left_of r) u)) t.graph.n
        (λ u h. not-true ((as_model t.graph).edge u v && not (finished (as_model t.graph) (left_of r) u)) (λ x. away u h x (cases ((as_model t.graph).edge u v)) f)),
  )
    where
      away : (u : ℕ) → u < t.graph.n → (as_model t.graph).edge u v && not (finished (as_model t.graph) (left_of r) u) ≡ true
          → ((as_model t.graph).edge u v ≡ true) ⊎ ((as_model t.graph).edge u v ≡ false) → ((u : ℕ) → Edge (as_model t.graph) u v → Finished (as_model t.graph) (left_of r) u) → ⊥
      away u h x (inl e) f = clash ((finished-tells A.well_formed (left_of r) A.acyclic).complete u h (f u e)) (not-is-true (finished (as_model t.graph) (left_of r) u) (right_of ((as_model t.graph).edge u v) (not (finished (as_model t.graph) (left_of r) u)) x))
      away u h x (inr e) f = clash x (ap (λ (b : Bool). b && not (finished (as_model t.graph) (left_of r) u)) e)

  -- THEOREM. None is above 127: a byte holds it.
  pub stored_most : {r : Run} → NumbersRight t.graph r → (v : ℕ) → v < 128 → waiting_of r v ≤ 127
  stored_most {r} N v h =
      ⊎_elim (λ (l : t.graph.n ≤ v). omega (arith, N.none_past v l h)) (λ (l : v < t.graph.n). omega (arith, N.counted v l, awaited-most t.graph A (left_of r) v)) (le-or-lt t.graph.n v)

  -- ---- it is kept true

  -- THEOREM. A tick of a record that suits, by value or in place, hands back a record that suits.
  pub tick-keeps : {r : Run} {y : Ticked} → Sized r → TickGives s r y → Suits t.graph r → Suits t.graph y.run
  unfolding tick_on_of ticked_of
  tick-keeps {r} {y} long h S = rw (tick-on h) (go (over t.graph r) refl)
    where
      fits : suits t.graph r ≡ true
      fits = suits-complete t.graph r A S

      go : (b : Bool) → over t.graph r ≡ b → Suits t.graph (tick_on_of t.graph r).run
      go true e = rw (fits, e) S
      go false e = rw (fits, e) (suits-sound t.graph (record_for (as_model t.graph) (r.instant + 1) (step (as_model t.graph) (state_of r))) A (next-suits t.graph A r long fits e))

  pub tick_in_place-keeps : {r r' : Run} {x : Report} → Sized r → TickInPlaceGives s r x r' → Suits t.graph r → Suits t.graph r'
  unfolding tick_on_of ticked_of
  tick_in_place-keeps {r} {r'} {x} long h S = rw (ap (λ (y : Ticked). y.run) (tick_in_place-given h ∙ tick-accepted s t (read-given R) ok r)) (go (over t.graph r) refl)
    where
      fits : suits t.graph r ≡ true
      fits = suits-complete t.graph r A S

      go : (b : Bool) → over t.graph r ≡ b → Suits t.graph (tick_on_of t.graph r).run
      go true e = rw (fits, e) S
      go false e = rw (fits, e) (suits-sound t.graph (record_for (as_model t.graph) (r.instant + 1) (step (as_model t.graph) (state_of r))) A (next-suits t.graph A r long fits e))

  -- ---- 16

  -- THEOREM. A tick says no with 16, and hands back the record that it was given, exactly where document 01's sentences fail or the numbers are
  -- wrong.
  pub tick_16 : {r : Run} {y : Ticked} → TickGives s r y
      → (y ≡ record { report = NoTick (at_0 16); run = r }) ↔ ((SuitsBefore t.graph r → ⊥) ⊎ (NumbersRight t.graph r → ⊥))
  tick_16 {r} h =
      let d = demand.tick_16 R ok bytes h in
      (λ q. which (cases (suits_before t.graph r)) (d.0 q), λ f. d.1 (λ S. ⊎_elim (λ (x : SuitsBefore t.graph r → ⊥). x S.before) (λ (x : NumbersRight t.graph r → ⊥). x S.numbers) f))
    where
      which : (suits_before t.graph r ≡ true) ⊎ (suits_before t.graph r ≡ false) → (Suits t.graph r → ⊥) → (SuitsBefore t.graph r → ⊥) ⊎ (NumbersRight t.graph r → ⊥)
      which (inl e) f = inr (λ N. f (record { before = before-sound t.graph r A e; numbers = N }))
      which (inr e) f = inl (λ S. clash (before-complete t.graph r A S) e)

  -- THEOREM. So does a single number that disagrees with the remainders, or is not 0 from N on.
  pub wrong-number : {r : Run} {y : Ticked} → TickGives s r y → (v : ℕ) → v < t.graph.n → (waiting_of r v ≡ awaited (as_model t.graph) (left_of r) v → ⊥) → y ≡ record { report = NoTick (at_0 16); run = r }
  wrong-number h v l f = (tick_16 h).1 (inr (λ N. f (N.counted v l)))

  pub number_past : {r : Run} {y : Ticked} → TickGives s r y → (v : ℕ) → t.graph.n ≤ v → v < 128 → (waiting_of r v ≡ 0 → ⊥) → y ≡ record { report = NoTick (at_0 16); run = r }
  number_past h v l k f = (tick_16 h).1 (inr (λ N. f (N.none_past v l k)))

  -- ---- and the rest is as it was

  -- THEOREM. Of a record that suits, a tick reports what it reported, and its other fields are what they were: remainders, marks, N and instant.
  pub tick-before : {r : Run} {y : Ticked} → TickGives s r y → Suits t.graph r → ◌≡◌ {A = TickedBefore} (record { report = y.report; run = before y.run }) (ticked_before t.graph (before r))
  unfolding tick_on_of ticked_of ticked_before over record_for state_of left_of as_model
  tick-before {r} {y} h S =
      let moved : tick_on_of t.graph r ≡ ticked_of t.graph r = rw (suits-complete t.graph r A S) refl in
      ap {B = TickedBefore} (λ (x : Ticked). record { report = x.report; run = before x.run }) (tick-on h ∙ moved) ∙ go (over t.graph r)
    where
      next : Run
      next = record_for (as_model t.graph) (r.instant + 1) (step (as_model t.graph) (state_of r))

      go : (b : Bool) → ◌≡◌ {A = TickedBefore}
          (let x = pick {A = Ticked} b (record { report = Done; run = r }) (record { report = Moved; run = next }) in record { report = x.report; run = before x.run })
          (pick b (record { report = Done; run = before r }) (record { report = Moved; run = record_before r.n (r.instant + 1) (step (as_model t.graph) (state_of r)) }))
      go true = refl
      go false = rw S.before.agrees refl

  -- ---- a run, from the start on

  module _ (e : List ℕ) (fit : judge_times t.graph e ≡ Accepted) where
    past : (v : ℕ) → t.graph.n ≤ v → times_of e v ≡ 0
    past = none_past t.graph e (times_fit t.graph e fit)

    same : (read_of s).graph ≡ t.graph
    same = sym (ap (λ (x : Taken). x.graph) (read-given R))

    -- THEOREM. The record at each instant of a run has the right numbers.
    pub numbers-at : (i : ℕ) → NumbersRight t.graph (run_at s e i)
    numbers-at i = rw same (record-numbers t.graph A i (steps (as_model t.graph) i (begin (times_of e))) (state-at t.graph A (times_of e) past i))

    started-on : {x : Started} → StartGives s e x → x ≡ record { answer = Accepted; run = record_at_of t.graph (times_of e) 0 }
    unfolding started_on steps
    started-on h = start-given h ∙ start-accepted s t (read-given R) ok e ∙ rw fit refl

    -- THEOREM. A start hands back a record that suits, and its other fields are what they were.
    pub start-keeps : {x : Started} → StartGives s e x → Suits t.graph x.run
    start-keeps h = rw (started-on h) (suits-sound t.graph (record_at_of t.graph (times_of e) 0) A (start-suits t.graph A e (times_fit t.graph e fit)))

    pub start-before : {x : Started} → StartGives s e x → before x.run ≡ record_before t.graph.n 0 (begin (times_of e))
    unfolding record_for steps as_model
    start-before h = ap {B = RunBefore} (λ (x : Started). before x.run) (started-on h)

    -- THEOREM. A run up to a tick, as order 5 plays it, hands back a record with the right numbers.
    pub until-keeps : {d : ℕ} {x : Run} → UntilGives t.graph (run_at s e 0) d x → NumbersRight t.graph x
    unfolding until_of steps
    until-keeps {d = d} {x = x} U =
        let i = U.as_seen in
        let fresh : Fresh t.graph (run_at s e 0) = rw same (fresh_start t.graph A (times_of e) past (times_fit t.graph e fit).short) in
        let q : x ≡ until_of t.graph (left_of (run_at s e 0)) d = rw (i.1, i.2, i.3) at (U.ensured t.graph i.0 (rw i.1 fresh)) in
        let l : left_of (run_at s e 0) ≡ times_of e = rw same (left-start t.graph A (times_of e) past) in
        let z : x ≡ run_at s e (min d (finish_of (as_model t.graph) (times_of e))) = q ∙ rw (l, same) refl in
        subst (NumbersRight t.graph) (sym z) (numbers-at (min d (finish_of (as_model t.graph) (times_of e))))
