-- One leap from a sound run: what runs, for how long, and that the run is sound again.
use mathlib.Core.Path.{◌≡◌, refl, sym, ap, ap₂, ◌∙◌, subst, fun_ext}
use mathlib.Core.Logic.{◌⊎◌, inl, inr, ⊎_elim}
use mathlib.Core.List.{List}
use mathlib.Core.Bool.{Bool, true, false, not, ◌&&◌, ◌||◌}
use Prim.Native.Nat.{ℕ, ◌+◌, ◌-◌, ◌≤◌, ◌<◌, zero-le, min}
use native.Mathlib.Omega.{arith}
use lib.Dec.{eqb, ltb}
use lib.ListN.{get_or, length}
use borrow.Author.Tests.{lt-ltb, le-ltb, ltb-true}
use Rattle.model.specs.Places.{pick, any, every, count, sum, table}
use Rattle.model.specs.Graph as model
use Rattle.model.specs.ListSchedule.{finished, chosen, leap, Fair}
use Rattle.model.proofs.Bools.{cases, clash, le-or-lt, both, left-of, right_of, or_left, not-true, not-is-true}
use Rattle.model.proofs.Places.{some-counted, count_less}
use Rattle.model.proofs.Sums.{sum_term}
use Rattle.model.proofs.Tables.{table-length}
use Rattle.model.proofs.Finished.{fin_left}
use Rattle.model.proofs.Listed.{some-chosen, fair-leap}
use Rattle.graph.specs.declared.Graph.{Graph}
use Rattle.graph.specs.Model.{as_model, AcceptedGraph}
use Rattle.vset.specs.declared.Vset.{Vset}
use Rattle.vset.specs.Members.{is_in, Members}
use Rattle.tick.specs.declared.Run.{Run}
use Rattle.tick.specs.Run.{MOST, left_of, state_of, record_for, over}
use Rattle.ready.specs.Ready.{some_left, is_behind}
use Rattle.waiting.specs.Waiting.{Unsettled, Settled}
use Rattle.remains.specs.Remains.{place, TOP, lowered, LeastFrom}
use Rattle.remains.proofs.Fewest.{least_ext}
use Rattle.choice.specs.Choice.{OfKinds, chosen_by}
use Rattle.ready.proofs.Ancestors.{last-edge, behind_walk, walk_behind}
use Rattle.tick.proofs.Records.{lowered-at}
use Rattle.tick.proofs.Ticking.{over-is, finished_by, on-is, on_able, on-runs, busy-after, unsettled, moves}
use Rattle.ready.proofs.ByNumbers.{settled-behind}
use Rattle.tick.proofs.Moved.{moved-state, moved-left, spend}
use Rattle.leaps.specs.Leaps.{Work, Stamped, unfinished, Sound, Leapt}

-- r is the least value of f over the places of p
record LeastOf (f : ℕ → ℕ) (p : ℕ → Bool) (r : ℕ) : Type 0 where
  low : (v : ℕ) → p v ≡ true → r ≤ f v
  who : ℕ
  member : p who ≡ true
  value : f who ≡ r

not-or : (a b : Bool) → a || b ≡ not (not a && not b)
not-or true b = refl
not-or false true = refl
not-or false false = refl

module _ (g : Graph) (A : AcceptedGraph g) where
  abbrev G : model.Graph
  G = as_model g

  -- the unfinished vertices are those that are not finished
  pub unfinished-is : (w : Work) → Sound g w → (v : ℕ) → v < g.n → unfinished w v ≡ not (finished G (left_of w.run) v)
  unfolding unfinished
  unfinished-is w s v l =
      not-or (is_in w.busy v) (is_in w.behind v)
      ∙ ap not (sym (finished_by g A w.run s.past (is_in w.busy) s.is_busy w.run.waiting w.behind s.settled v l))

  -- and there is none from N on
  pub unfinished-past : (w : Work) → Sound g w → (v : ℕ) → g.n ≤ v → unfinished w v ≡ false
  unfolding unfinished some_left left_of as_model
  unfinished-past w s v l =
      ap₂ ◌||◌ (s.is_busy v ∙ ap (ltb 0) (s.past v l) ∙ le-ltb 0 0 zero-le)
      (settled-behind g A w.run.waiting (is_in w.busy) w.behind s.settled v ∙ not-true (is_behind G (is_in w.busy) v) (λ t.
      let x = behind_walk (is_in w.busy) v t in
      let e = last-edge x.2 in
      omega (arith, A.well_formed.to e.0 v e.1)))

  pub over-all : (w : Work) → Sound g w → every (finished G (left_of w.run)) g.n ≡ not (any (is_in w.busy) 128)
  unfolding over
  over-all w s = over-is g A w.run s.past (is_in w.busy) s.is_busy

  -- while a vertex has ticks left, one runs
  pub one-runs : (w : Work) → Sound g w → 0 < count (is_in w.busy) 128 → (u : ℕ) × (u < g.n) × (chosen G (state_of w.run) u ≡ true)
  unfolding as_model some_left left_of state_of
  one-runs w sound some =
      let b = some-counted (is_in w.busy) 128 some in
      let left : 0 < left_of w.run b.0 = ltb-true 0 (left_of w.run b.0) (sym (sound.is_busy b.0) ∙ b.2) in
      let below : b.0 < g.n = ⊎_elim (λ (l : g.n ≤ b.0). absurd (omega (arith, sound.past b.0 l))) (λ l. l) (le-or-lt g.n b.0) in
      some-chosen A.well_formed A.acyclic (state_of w.run) sound.fair b.0 below (λ f. omega (arith, fin_left f))

  -- ---- the leap that the code makes

  module _ (w : Work) (sound : Sound g w) (some : 0 < count (is_in w.busy) 128) (able on : ℕ → Bool)
      (is-able : (v : ℕ) → able v ≡ is_in w.busy v && not (is_in w.behind v)) (words : List ℕ) (W : OfKinds words g.kind g.n)
      (is-on : (v : ℕ) → on v ≡ chosen_by g.kinds g.cores words able (is_in w.run.ran) v) where
    pub on-chosen : (v : ℕ) → on v ≡ chosen G (state_of w.run) v
    on-chosen = on-is g A w.run sound.past (is_in w.busy) sound.is_busy w.run.waiting w.behind sound.settled able is-able words W on is-on

    on-has : (v : ℕ) → on v ≡ true → (v < g.n) × (1 ≤ left_of w.run v)
    on-has = on-runs g A w.run sound.past (is_in w.busy) sound.is_busy w.run.waiting w.behind sound.settled able is-able words W on is-on

    able-on : (v : ℕ) → on v ≡ true → able v ≡ true
    able-on = on_able g A w.run sound.past (is_in w.busy) sound.is_busy w.run.waiting w.behind sound.settled able is-able words W on is-on

    -- whoever ran can go on, so it does
    still-on : (v : ℕ) → is_in w.run.ran v ≡ true → on v ≡ true
    unfolding chosen_by
    still-on v t = is-on v ∙ or_left (able v && is_in w.run.ran v) _ (both (able v) (is_in w.run.ran v) (is-able v ∙ sound.goes_on v t) t)

    module _ (begins : ℕ → Bool) (is-begins : (v : ℕ) → begins v ≡ on v && not (is_in w.run.ran v)) (fewest : ℕ) (first : LeastFrom (left_of w.run) begins w.least fewest)
        (room d : ℕ) (some-room : 0 < room) (is-d : d ≡ min fewest room) where
      -- the fewest of those that go on or begin: one of them has so many left, since somebody runs
      least : LeastOf (left_of w.run) on fewest
      least = go first.is sound.fewest.is
        where
          low : (v : ℕ) → on v ≡ true → (is_in w.run.ran v ≡ true) ⊎ (is_in w.run.ran v ≡ false) → fewest ≤ left_of w.run v
          low v t (inl r) = omega (arith, first.top, sound.fewest.low v r)
          low v t (inr r) = first.low v (is-begins v ∙ both (on v) (not (is_in w.run.ran v)) t (ap not r))

          by : (u : ℕ) → on u ≡ true → left_of w.run u ≡ fewest → LeastOf (left_of w.run) on fewest
          by u t e = record { low = λ v h. low v h (cases (is_in w.run.ran v)); who = u; member = t; value = e }

          somebody : fewest ≡ TOP → ⊥
          somebody e =
              let u = one-runs w sound some in
              let t = on-chosen u.0 ∙ u.2 in
              omega (arith, low u.0 t (cases (is_in w.run.ran u.0)), sum_term (left_of w.run) u.0 g.n u.1, sound.in_time)

          go : (fewest ≡ w.least) ⊎ ((v : ℕ) × (begins v ≡ true) × (left_of w.run v ≡ fewest))
              → (w.least ≡ TOP) ⊎ ((v : ℕ) × (is_in w.run.ran v ≡ true) × (left_of w.run v ≡ w.least)) → LeastOf (left_of w.run) on fewest
          go (inl e) (inl z) = absurd (somebody (e ∙ z))
          go (inl e) (inr r) = by r.0 (still-on r.0 r.1) (r.2 ∙ sym e)
          go (inr r) x = by r.0 (left-of (on r.0) (not (is_in w.run.ran r.0)) (sym (is-begins r.0) ∙ r.1)) r.2

      pub within : (v : ℕ) → on v ≡ true → (v < w.run.n) × (d ≤ left_of w.run v)
      within v t =
          (rw sound.agrees (on-has v t).0, omega (arith, least.low v t, is-d))

      pub at_most : w.run.instant + d ≤ MOST
      at_most = omega (arith, is-d, least.value, sum_term (left_of w.run) least.who g.n (on-has least.who least.member).0, sound.in_time)

      enough : (v : ℕ) → chosen G (state_of w.run) v ≡ true → d ≤ left_of w.run v
      enough v t = (within v (on-chosen v ∙ t)).1

      module _ (left : List ℕ) (over ran busy : Vset) (is-left : left ≡ table (lowered w.run.left on d) 128)
          (is-over : (v : ℕ) → is_in over v ≡ on v && eqb (get_or left v 0) 0) (is-ran : Members ran (λ v. on v && not (is_in over v)))
          (busy-is : (v : ℕ) → is_in busy v ≡ is_in w.busy v && not (is_in over v)) where
        left_after : (v : ℕ) → get_or left v 0 ≡ left_of w.run v - pick (chosen G (state_of w.run) v) d 0
        unfolding left_of
        left_after v =
            lowered-at w.run.left on d left (λ v h. sound.past v (omega (arith, A.few_vertices))) is-left v
            ∙ ap (λ (b : Bool). get_or w.run.left v 0 - pick b d 0) (on-chosen v)

        is_busy : (v : ℕ) → is_in busy v ≡ some_left left v
        is_busy = busy-after g A w.run sound.past (is_in w.busy) sound.is_busy w.run.waiting w.behind sound.settled able is-able words W on is-on d left (is_in over) (is_in busy) is-left is-over busy-is

        -- where the room does not cut the leap short, the vertex with the fewest ticks left has none now
        one-ends : d ≡ fewest → count (is_in busy) 128 < count (is_in w.busy) 128
        unfolding some_left left_of
        one-ends all =
            let h = on-has least.who least.member in
            let c : chosen G (state_of w.run) least.who ≡ true = sym (on-chosen least.who) ∙ least.member in
            let z : get_or left least.who 0 ≡ 0 = omega (arith, rw c at (left_after least.who), least.value, all) in
            count_less (is_in busy) (is_in w.busy) least.who 128 (omega (arith, h.0, A.few_vertices))
            (λ v l t.
            let b = ltb-true 0 (get_or left v 0) (sym (is_busy v) ∙ t) in
            sound.is_busy v ∙ lt-ltb 0 (get_or w.run.left v 0) (omega (arith, left_after v)))
            (sound.is_busy least.who ∙ lt-ltb 0 (get_or w.run.left least.who 0) h.1)
            (is_busy least.who ∙ ap (ltb 0) z ∙ le-ltb 0 0 zero-le)

        fewer : (count (is_in busy) 128 < count (is_in w.busy) 128) ⊎ (d ≡ room)
        fewer =
            ⊎_elim
            (λ (l : fewest ≤ room). let all : d ≡ fewest = omega (arith, is-d) in inl (one-ends all))
            (λ (l : room < fewest). let cut : d ≡ room = omega (arith, is-d) in inr cut)
            (le-or-lt fewest room)

        -- those that have run out of ticks are finished, and have their successors to tell
        pub untold : Unsettled g.edge g.edges w.run.waiting (is_in busy) (is_in w.behind) (is_in over)
        untold = unsettled g A w.run sound.past (is_in w.busy) sound.is_busy w.run.waiting w.behind sound.settled able is-able words W on is-on d left (is_in over) (is_in busy) is-left is-over busy-is

        module _ (few : ℕ) (is-few : LeastFrom (place left) (λ v. on v && not (eqb (get_or left v 0) 0)) TOP few) (hind new : Vset) (wait fins : List ℕ) (settled : Settled g.edge g.edges wait (is_in busy) hind)
            (is_new : (v : ℕ) → is_in new v ≡ (is_in w.busy v || is_in w.behind v) && not (is_in busy v || is_in hind v))
            (stamps : Stamped w.finishes (is_in new) (w.run.instant + d) fins) where
          abbrev next : Run
          next = record { n = w.run.n; instant = w.run.instant + d; left = left; ran = ran; waiting = wait }

          moved : next ≡ record_for G (w.run.instant + d) (leap G d (state_of w.run))
          moved =
              moves g A w.run sound.past (is_in w.busy) sound.is_busy w.run.waiting w.behind sound.settled able is-able words W on is-on d left (is_in over) (is_in busy) is-left is-over busy-is
              sound.agrees ran hind wait is-ran settled

          still-fair : Fair G (state_of next)
          still-fair = subst (Fair G) (sym (moved-state g A w.run sound.past d next moved)) (fair-leap G (state_of w.run) sound.fair d)

          fewer-ticks : sum (left_of next) g.n + d ≤ sum (left_of w.run) g.n
          fewer-ticks =
              let u = one-runs w sound some in
              spend g A w.run sound.past d next moved u.0 u.1 u.2 (enough u.0 u.2)

          -- who ran on has ticks left, and stands behind nobody: nobody has become busy
          goes_on : (v : ℕ) → is_in ran v ≡ true → is_in busy v && not (is_in hind v) ≡ true
          unfolding as_model
          goes_on v t =
              both (is_in busy v) (not (is_in hind v))
              (busy-is v ∙ both (is_in w.busy v) (not (is_in over v)) (left-of (is_in w.busy v) (not (is_in w.behind v)) free) (right_of (on v) (not (is_in over v)) went))
              (ap not (not-true (is_in hind v) (λ h. clash (behind h) (not-is-true (is_in w.behind v) (right_of (is_in w.busy v) (not (is_in w.behind v)) free)))))
            where
              went : on v && not (is_in over v) ≡ true
              went = sym (is-ran.are v) ∙ t

              runs : on v ≡ true
              runs = left-of (on v) (not (is_in over v)) went

              free : is_in w.busy v && not (is_in w.behind v) ≡ true
              free = sym (is-able v) ∙ able-on v runs

              behind : is_in hind v ≡ true → is_in w.behind v ≡ true
              behind h =
                  let x = behind_walk (is_in busy) v (sym (settled-behind g A wait (is_in busy) hind settled v) ∙ h) in
                  settled-behind g A w.run.waiting (is_in w.busy) w.behind sound.settled v ∙ walk_behind (is_in w.busy) A.well_formed A.acyclic x.0 v (on-has v runs).0 (left-of (is_in w.busy x.0) (not (is_in over x.0)) (sym (busy-is x.0) ∙ x.1)) x.2

          fewest-after : LeastFrom (left_of next) (is_in ran) TOP few
          unfolding left_of
          fewest-after = least_ext (place left) (left_of next) (λ v. on v && not (eqb (get_or left v 0) 0)) (is_in ran) TOP few (λ v. sym (is-ran.are v ∙ ap (λ (b : Bool). on v && not b) (is-over v) ∙ turn (on v) (eqb (get_or left v 0) 0))) (λ v h. refl) is-few
            where
              turn : (a b : Bool) → a && not (a && b) ≡ a && not b
              turn true b = refl
              turn false b = refl

          pub leapt : Leapt g room w (record { run = next; least = few; busy = busy; behind = hind; finishes = fins })
          unfolding unfinished record_for state_of
          leapt = record {
            d = d;
            some = omega (arith, (on-has least.who least.member).1, least.value, is-d, some-room);
            no_further = omega (arith, is-d);
            enough = enough;
            moved = moved;
            stamps = subst (λ (p : ℕ → Bool). Stamped w.finishes p (w.run.instant + d) fins) (fun_ext is_new) stamps;
            fewer = fewer;
            sound = record {
              agrees = sound.agrees;
              past = λ v l. omega (arith, moved-left g A w.run sound.past d next moved v, sound.past v l);
              fair = still-fair;
              in_time = omega (arith, fewer-ticks, sound.in_time);
              goes_on = goes_on;
              fewest = fewest-after;
              is_busy = is_busy;
              settled = settled;
              long_left = ap (λ (l : List ℕ). length l) is-left ∙ table-length (lowered w.run.left on d) 128;
              long_finishes = stamps.long;
            };
          }
