-- A run that is ticked, tick by tick: a started record suits its graph, a tick leaves a record that suits, and after t ticks it stands
-- for the list schedule's state at the instant t. So the ticks end where the whole run says, and are done from there on.
use mathlib.Core.Path.{◌≡◌, refl, sym, ap, ap₂, ◌∙◌, subst}
use mathlib.Core.Logic.{◌⊎◌, inl, inr, ⊎_elim}
use mathlib.Core.List.{List}
use mathlib.Core.Bool.{Bool, true, false, ◌&&◌}
use Prim.Native.Nat.{ℕ, zero, suc, ◌+◌, ◌-◌, ◌≤◌, ◌<◌}
use native.Mathlib.Numerals.{add-one}
use native.Mathlib.Omega.{arith}
use lib.Dec.{ltb}
use lib.ListN.{length}
use borrow.Author.Tests.{ltb-true, le-leb, lt-leb}
use Rattle.model.specs.Places.{pick, sum}
use Rattle.model.specs.Graph as model
use Rattle.model.specs.Schedule.{Finished, Ready}
use Rattle.model.specs.ListSchedule.{State, finished, begin, chosen, step, steps, Fair}
use Rattle.model.proofs.Bools.{clash, le-or-lt, left-of, right_of}
use Rattle.model.proofs.Places.{every_intro}
use Rattle.model.proofs.Sums.{sum-most}
use Rattle.model.proofs.Tables.{padded-length}
use Rattle.model.proofs.Cycles.{ranked}
use Rattle.model.proofs.Finished.{fin_less, ready-left, left-ready, all-finished-or}
use Rattle.model.proofs.Tests.{finished-tells, ready-tells}
use Rattle.model.proofs.Listed.{chosen-ready, some-chosen, fair-leap, fair-begin}
use Rattle.graph.specs.declared.Graph.{Graph}
use Rattle.graph.specs.Model.{as_model, AcceptedGraph}
use Rattle.vset.specs.Members.{is_in}
use Rattle.tick.specs.declared.Run.{Run}
use Rattle.tick.specs.declared.Ticked.{Ticked}
use Rattle.tick.specs.Report.{Moved, Done}
use Rattle.tick.specs.Run.{left_of, state_of, record_for, over, ticked_of}
use Rattle.tick.specs.Suits.{suits, SuitsBefore}
use Rattle.tick.proofs.Suiting.{suits-sound, suits-complete, nothing-past}
use Rattle.tick.proofs.Records.{record-numbers}
use Rattle.times.specs.Times.{times_of, Fitting}
use Rattle.times.proofs.Fits.{none_past}
use Rattle.leaps.specs.Finishes.{finish_of}
use Rattle.leaps.specs.Leaps.{record_at_of}
use Rattle.tick.proofs.Moved.{unchosen, moved-state, moved-left, moved-ran, less-left, spend}
use Rattle.leaps.proofs.Instants as instants

-- the record after t ticks
unfoldable pub ticked : Graph → ℕ → Run → Run
ticked g zero r = r
ticked g (suc t) r = (ticked_of g (ticked g t r)).run

module _ (g : Graph) (A : AcceptedGraph g) where
  abbrev G : model.Graph
  G = as_model g

  -- ---- one tick of a record that suits

  module _ (r : Run) (long : length r.left ≡ 128) (ok : suits g r ≡ true) where
    S : SuitsBefore g r
    S = (suits-sound g r A ok).before

    past : (v : ℕ) → g.n ≤ v → left_of r v ≡ 0
    past = nothing-past g r A ok long

    abbrev next : Run
    next = record_for G (r.instant + 1) (step G (state_of r))

    off : (v : ℕ) → g.n ≤ v → chosen G (state_of r) v ≡ false
    off = unchosen g A r past

    -- THEOREM. The record that a tick hands back stands for the next state.
    pub next-state : state_of next ≡ step G (state_of r)
    next-state = moved-state g A r past 1 next refl

    next-left : (v : ℕ) → left_of next v ≡ left_of r v - pick (chosen G (state_of r) v) 1 0
    next-left = moved-left g A r past 1 next refl

    next-ran : (v : ℕ) → is_in next.ran v ≡ chosen G (state_of r) v && ltb 0 (left_of r v - pick (chosen G (state_of r) v) 1 0)
    next-ran = moved-ran g A r past 1 next refl

    less : (v : ℕ) → left_of next v ≤ left_of r v
    less = less-left g A r past 1 next refl

    some-tick : (u : ℕ) → chosen G (state_of r) u ≡ true → 0 < left_of r u
    unfolding as_model state_of
    some-tick u c =
        ⊎_elim
        (λ (l : g.n ≤ u). absurd (clash c (off u l)))
        (λ (l : u < g.n). ready-left ((ready-tells A.well_formed (left_of r) A.acyclic).sound u l (chosen-ready G (state_of r) u c)))
        (le-or-lt g.n u)

    -- somebody runs, so that there is a tick less in all
    spent : over g r ≡ false → sum (left_of next) g.n + 1 ≤ sum (left_of r) g.n
    unfolding as_model over state_of
    spent o = go (all-finished-or A.well_formed (left_of r) (ranked A.well_formed A.acyclic))
      where
        go : ((v : ℕ) → v < g.n → Finished G (left_of r) v) ⊎ ((v : ℕ) × (v < g.n) × (Finished G (left_of r) v → ⊥)) → sum (left_of next) g.n + 1 ≤ sum (left_of r) g.n
        go (inl a) = absurd (clash (every_intro (finished G (left_of r)) g.n (λ v l. (finished-tells A.well_formed (left_of r) A.acyclic).complete v l (a v l))) o)
        go (inr x) =
            let u = some-chosen A.well_formed A.acyclic (state_of r) S.few_marked x.0 x.1 x.2 in
            spend g A r past 1 next refl u.0 u.1 u.2 (some-tick u.0 u.2)

    still-ready : (v : ℕ) → v < g.n → is_in next.ran v ≡ true → Ready G (left_of next) v
    unfolding as_model state_of
    still-ready v l t =
        let c = left-of (chosen G (state_of r) v) (ltb 0 (left_of r v - pick (chosen G (state_of r) v) 1 0)) (sym (next-ran v) ∙ t) in
        let some = ltb-true 0 (left_of r v - pick (chosen G (state_of r) v) 1 0) (right_of (chosen G (state_of r) v) (ltb 0 (left_of r v - pick (chosen G (state_of r) v) 1 0)) (sym (next-ran v) ∙ t)) in
        let ready-now = (ready-tells A.well_formed (left_of r) A.acyclic).sound v l (chosen-ready G (state_of r) v c) in
        left-ready (omega (arith, next-left v)) (λ u e. fin_less less (ready-now.before u e))

    -- THEOREM. And it suits the graph again.
    pub next-suits : over g r ≡ false → suits g next ≡ true
    unfolding record_for as_model
    next-suits o = suits-complete g next A (record {
      before = record {
        agrees = refl;
        no_more = λ v l. omega (arith, less v, S.no_more v l);
        in_time = omega (arith, spent o, S.in_time);
        marked_ready = still-ready;
        few_marked = subst (Fair G) (sym next-state) (fair-leap G (state_of r) S.few_marked 1);
        zero_past = λ v l h. omega (arith, less v, past v l);
        unmarked_past = λ v l h. next-ran v ∙ ap (λ (b : Bool). b && ltb 0 (left_of r v - pick (chosen G (state_of r) v) 1 0)) (off v l);
      };
      numbers = record-numbers g A (r.instant + 1) (step G (state_of r)) next-state;
    })

  -- ---- from the start on

  module _ (l : List ℕ) (fit : Fitting g l) where
    abbrev e : ℕ → ℕ
    e = times_of l

    abbrev at : ℕ → Run
    at = record_at_of g e

    e-past : (v : ℕ) → g.n ≤ v → e v ≡ 0
    e-past = none_past g l fit

    state-at : (t : ℕ) → state_of (at t) ≡ steps G t (begin e)
    state-at = instants.state-at g A e e-past

    long-at : (t : ℕ) → length (at t).left ≡ 128
    unfolding record_for as_model
    long-at t = padded-length 128 (steps G t (begin e)).rest g.n A.few_vertices

    left_at : (t : ℕ) → left_of (at t) ≡ (steps G t (begin e)).rest
    left_at = instants.left_at g A e e-past

    unfinished-at : (t : ℕ) → t < finish_of G e → over g (at t) ≡ false
    unfinished-at t h = instants.over-at g A e e-past t (omega arith) ∙ lt-leb (finish_of G e) t h

    -- THEOREM. A started record suits its graph.
    pub start-suits : suits g (at 0) ≡ true
    unfolding record_for steps state_of left_of as_model
    start-suits = suits-complete g (at 0) A (record {
      before = record {
        agrees = refl;
        no_more = λ v h. omega (arith, ap (λ (c : ℕ → ℕ). c v) (left_at 0), fit.short v h);
        in_time = omega (arith, A.few_vertices, sum-most (left_of (at 0)) 1000000 g.n (λ v h. omega (arith, ap (λ (c : ℕ → ℕ). c v) (left_at 0), fit.short v h, A.short v h)));
        marked_ready = λ v h t. absurd (clash t (ap (λ (x : State). x.ran v) (state-at 0)));
        few_marked = subst (Fair G) (sym (state-at 0)) (fair-begin G e);
        zero_past = λ v h k. ap (λ (c : ℕ → ℕ). c v) (left_at 0) ∙ e-past v h;
        unmarked_past = λ v h k. ap (λ (x : State). x.ran v) (state-at 0);
      };
      numbers = record-numbers g A 0 (steps G 0 (begin e)) (state-at 0);
    })

    next-at : (t : ℕ) → record_for G (t + 1) (step G (state_of (at t))) ≡ at (suc t)
    unfolding steps
    next-at t = ap₂ {C = Run} (λ (x : ℕ) (s : State). record_for G x (step G s)) (add-one t) (state-at t)

    -- a tick before the finish moves, to the record of the next instant; one at the finish is done
    pub tick_moves : (t : ℕ) → t < finish_of G e → ticked_of g (at t) ≡ record { report = Moved; run = at (suc t) }
    unfolding ticked_of record_for
    tick_moves t h = rw (unfinished-at t h) (ap {B = Ticked} (λ (r : Run). record { report = Moved; run = r }) (next-at t))

    pub tick-done : ticked_of g (at (finish_of G e)) ≡ record { report = Done; run = at (finish_of G e) }
    unfolding ticked_of
    tick-done = rw (instants.over-at g A e e-past (finish_of G e) (omega arith) ∙ le-leb (finish_of G e) (finish_of G e) (omega arith)) refl

    suits-next : (t : ℕ) → suits g (at t) ≡ true → t < finish_of G e → suits g (record_for G (t + 1) (step G (state_of (at t)))) ≡ true
    unfolding record_for
    suits-next t ok h = next-suits (at t) (long-at t) ok (unfinished-at t h)

    -- THEOREM. After t ticks the record is that of the list schedule's state at the instant t, and it suits the graph, as long as the run
    -- is not finished before.
    pub by_ticks : (t : ℕ) → t ≤ finish_of G e → (ticked g t (at 0) ≡ at t) × (suits g (at t) ≡ true)
    unfolding ticked
    by_ticks zero h = (refl, start-suits)
    by_ticks (suc t) h =
        let ih = by_ticks t (omega arith) in
        let u : t < finish_of G e = omega arith in (
          ap (λ (r : Run). (ticked_of g r).run) ih.0 ∙ ap (λ (x : Ticked). x.run) (tick_moves t u),
          subst (λ (r : Run). suits g r ≡ true) (next-at t) (suits-next t ih.1 u),
        )
