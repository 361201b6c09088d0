-- What the sets that a tick builds are, in the terms of the model, and the record that it makes of them: over any record whose places from N on
-- are zero and whose numbers are right, and for one tick as for a leap of several.
use mathlib.Core.Path.{◌≡◌, sym, ap, ap₂, ◌∙◌, fun_ext}
use mathlib.Core.Logic.{◌⊎◌, inl, inr, ⊎_elim}
use mathlib.Core.List.{List}
use mathlib.Core.Bool.{Bool, true, false, not, ◌&&◌, and-true}
use Prim.Native.Nat.{ℕ, ◌+◌, ◌-◌, ◌≤◌, ◌<◌, zero-le}
use native.Mathlib.Omega.{arith}
use lib.Dec.{eqb, ltb}
use lib.ListN.{get_or, length}
use borrow.Author.Tests.{lt-ltb, le-ltb, ltb-true}
use Rattle.model.specs.Places.{pick, any, table, padded}
use Rattle.model.specs.ListSchedule.{finished, ready, chosen, leap}
use Rattle.model.proofs.Bools.{clash, cases, le-or-lt, left-of}
use Rattle.model.proofs.Tables.{table-length}
use Rattle.model.proofs.Turns.{as_padded}
use Rattle.model.proofs.Leap.{ready-past}
use Rattle.model.proofs.Listed.{chosen-ready}
use Rattle.graph.specs.declared.Graph.{Graph}
use Rattle.graph.specs.Model.{as_model, AcceptedGraph}
use Rattle.vset.specs.declared.Vset.{Vset}
use Rattle.vset.specs.Members.{is_in, Members}
use Rattle.vset.proofs.Gather.{members_ext}
use Rattle.vset.proofs.Same.{set-of}
use Rattle.waiting.specs.Waiting.{Settled, Unsettled}
use Rattle.waiting.proofs.Settling.{run_out}
use Rattle.remains.specs.Remains.{lowered}
use Rattle.tick.specs.declared.Run.{Run}
use Rattle.tick.specs.Run.{left_of, state_of, awaited, record_for, over}
use Rattle.ready.specs.Ready.{some_left, is_behind}
use Rattle.choice.specs.Choice.{OfKinds, chosen_by}
use Rattle.choice.proofs.ByKind.{by_words}
use Rattle.ready.proofs.Standing.{ready-is, finished-is, all_finished}
use Rattle.ready.proofs.ByNumbers.{settled-behind}
use Rattle.tick.proofs.Awaited.{settled-awaited}
use Rattle.tick.proofs.Records.{still_left, lowered-at}
use Rattle.choice.proofs.Listed.{chosen_is}

module _ (g : Graph) (A : AcceptedGraph g) (r : Run) (past : (v : ℕ) → g.n ≤ v → left_of r v ≡ 0) (busy : ℕ → Bool) (is_busy : (v : ℕ) → busy v ≡ some_left r.left v) where
  all-busy : busy ≡ some_left r.left
  all-busy = fun_ext is_busy

  pub over-is : over g r ≡ not (any busy 128)
  unfolding over some_left left_of as_model
  over-is = all_finished A.well_formed A.acyclic (left_of r) 128 A.few_vertices past ∙ ap (λ (p : ℕ → Bool). not (any p 128)) (sym all-busy)

  -- the numbers say who stands behind a vertex that has ticks left
  module _ (wait : List ℕ) (behind : Vset) (settled : Settled g.edge g.edges wait busy behind) where
    abbrev hind : ℕ → Bool
    hind = is_in behind

    pub is_hind : (v : ℕ) → hind v ≡ is_behind (as_model g) busy v
    is_hind = settled-behind g A wait busy behind settled

    pub finished_by : (v : ℕ) → v < g.n → finished (as_model g) (left_of r) v ≡ not (busy v) && not (hind v)
    unfolding some_left left_of as_model
    finished_by v l =
        finished-is A.well_formed A.acyclic (left_of r) v l
        ∙ sym (ap₂ (λ (x y : Bool). not x && not y) (is_busy v) (is_hind v ∙ ap (λ (p : ℕ → Bool). is_behind (as_model g) p v) all-busy))

    module _ (able : ℕ → Bool) (is-able : (v : ℕ) → able v ≡ busy v && not (hind v)) where
      pub able_is : (v : ℕ) → able v ≡ ready (as_model g) (left_of r) v
      unfolding some_left left_of as_model
      able_is v = is-able v ∙ ap₂ (λ (x y : Bool). x && not y) (is_busy v) (is_hind v ∙ ap (λ (p : ℕ → Bool). is_behind (as_model g) p v) all-busy) ∙ ⊎_elim out into (le-or-lt g.n v)
        where
          out : g.n ≤ v → ltb 0 (get_or r.left v 0) && not (is_behind (as_model g) (some_left r.left) v) ≡ ready (as_model g) (left_of r) v
          out l =
              ap (λ (b : Bool). b && not (is_behind (as_model g) (some_left r.left) v)) (ap (ltb 0) (past v l) ∙ le-ltb 0 0 zero-le)
              ∙ sym (ready-past A.well_formed (left_of r) v l (past v l))

          into : v < g.n → ltb 0 (get_or r.left v 0) && not (is_behind (as_model g) (some_left r.left) v) ≡ ready (as_model g) (left_of r) v
          into l = sym (ready-is A.well_formed A.acyclic (left_of r) v l)

      able-past : (v : ℕ) → g.n ≤ v → able v ≡ false
      unfolding as_model
      able-past v l = able_is v ∙ ready-past A.well_formed (left_of r) v l (past v l)

      module _ (words : List ℕ) (W : OfKinds words g.kind g.n) (on : ℕ → Bool)
          (is-on : (v : ℕ) → on v ≡ chosen_by g.kinds g.cores words able (is_in r.ran) v) where
        pub on-is : (v : ℕ) → on v ≡ chosen (as_model g) (state_of r) v
        unfolding state_of
        on-is v = is-on v ∙ by_words g A words W able (is_in r.ran) able-past v ∙ chosen_is g A (state_of r) past able able_is v

        is_ready : (v : ℕ) → on v ≡ true → ready (as_model g) (left_of r) v ≡ true
        unfolding state_of
        is_ready v t = chosen-ready (as_model g) (state_of r) v (sym (on-is v) ∙ t)

        -- who runs is able to
        pub on_able : (v : ℕ) → on v ≡ true → able v ≡ true
        on_able v t = able_is v ∙ is_ready v t

        -- it is a vertex of the graph and has a tick left
        pub on-runs : (v : ℕ) → on v ≡ true → (v < g.n) × (1 ≤ left_of r v)
        unfolding some_left left_of as_model
        on-runs v t = (
          ⊎_elim (λ (l : g.n ≤ v). absurd (clash (is_ready v t) (ready-past A.well_formed (left_of r) v l (past v l)))) (λ l. l) (le-or-lt g.n v),
          ltb-true 0 (get_or r.left v 0) (sym (is_busy v) ∙ left-of (busy v) (not (hind v)) (sym (is-able v) ∙ on_able v t)),
        )

        -- ---- d ticks of those that run

        module _ (d : ℕ) (next : List ℕ) (over rest : ℕ → Bool) (is-next : next ≡ table (lowered r.left on d) 128) (is-over : (v : ℕ) → over v ≡ on v && eqb (get_or next v 0) 0)
            (is-rest : (v : ℕ) → rest v ≡ busy v && not (over v)) where
          next-at : (v : ℕ) → get_or next v 0 ≡ get_or r.left v 0 - pick (on v) d 0
          unfolding left_of
          next-at = lowered-at r.left on d next (λ v h. past v (omega (arith, A.few_vertices))) is-next

          -- who has run out of ticks is no longer busy, and nobody else
          pub busy-after : (v : ℕ) → rest v ≡ some_left next v
          unfolding some_left left_of
          busy-after v = is-rest v ∙ ap (λ (b : Bool). busy v && not b) (is-over v) ∙ go (cases (on v))
            where
              go : (on v ≡ true) ⊎ (on v ≡ false) → busy v && not (on v && eqb (get_or next v 0) 0) ≡ ltb 0 (get_or next v 0)
              go (inl t) = rw (t, is_busy v ∙ lt-ltb 0 (get_or r.left v 0) (on-runs v t).1) (still_left true (get_or next v 0))
              go (inr f) = let z : get_or r.left v 0 ≡ get_or next v 0 = omega (arith, rw f at (next-at v)) in rw f (and-true (busy v) ∙ is_busy v ∙ ap (ltb 0) z)

          -- who has run out of ticks could run, so that it is finished, and has its successors to tell
          pub unsettled : Unsettled g.edge g.edges wait rest hind over
          unsettled = run_out g.edge g.edges wait busy behind settled over rest (λ v t. sym (is-able v) ∙ on_able v (left-of (on v) (eqb (get_or next v 0) 0) (sym (is-over v) ∙ t))) is-rest

          -- THEOREM. When they have been told, the record is that of the state moved on.
          pub moves : r.n ≡ g.n → (ran after : Vset) (new : List ℕ) → Members ran (λ v. on v && not (over v)) → Settled g.edge g.edges new rest after
              → ◌≡◌ {A = Run} (record { n = r.n; instant = r.instant + d; left = next; ran = ran; waiting = new }) (record_for (as_model g) (r.instant + d) (leap (as_model g) d (state_of r)))
          unfolding record_for leap state_of left_of some_left as_model
          moves agrees ran after new is-ran told =
              let s = leap (as_model g) d (state_of r) in
              let at : (v : ℕ) → get_or next v 0 ≡ s.rest v = λ v. next-at v ∙ ap (λ (b : Bool). get_or r.left v 0 - pick b d 0) (on-is v) in
              let left = as_padded s.rest 128 g.n next A.few_vertices (ap (λ (l : List ℕ). length l) is-next ∙ table-length (lowered r.left on d) 128) (λ v h. at v)
              (λ v h k. omega (arith, next-at v, past v h)) in
              let marks = set-of ran s.ran (members_ext ran (λ v. on v && not (over v)) s.ran is-ran
              (λ v. ap (λ (b : Bool). on v && not b) (is-over v) ∙ still_left (on v) (get_or next v 0) ∙ ap₂ (λ (b : Bool) (x : ℕ). b && ltb 0 x) (on-is v) (at v))) in
              let numbers = settled-awaited g A (λ v. get_or next v 0) rest busy-after new after told ∙ ap (λ (c : ℕ → ℕ). padded 128 (awaited (as_model g) c) g.n) (fun_ext at) in
              λ i. record { n = agrees i; instant = r.instant + d; left = left i; ran = marks i; waiting = numbers i }
