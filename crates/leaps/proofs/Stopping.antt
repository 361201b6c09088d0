-- A run by leaps up to tick d: it stops there, the last leap cut short, or before, where nobody has ticks left.
use mathlib.Core.Path.{◌≡◌, refl, ap, ap₂, ◌∙◌}
use mathlib.Core.Logic.{◌⊎◌, inl, inr, ⊎_elim}
use mathlib.Core.List.{List}
use mathlib.Core.Bool.{Bool, true, false}
use Prim.Native.Nat.{ℕ, ◌+◌, ◌-◌, ◌^◌, ◌≤◌, ◌<◌, min}
use native.Mathlib.Omega.{arith}
use lib.Dec.{ltb}
use lib.ListN.{length}
use borrow.Author.Tests.{lt-ltb, le-ltb}
use Rattle.model.specs.Places.{pick, every, count, sum, table}
use Rattle.model.specs.Graph as model
use Rattle.model.proofs.Places.{first-le}
use Rattle.graph.specs.declared.Graph.{Graph}
use Rattle.graph.specs.Model.{as_model, AcceptedGraph}
use Rattle.vset.specs.Members.{is_in}
use Rattle.tick.specs.declared.Run.{Run}
use Rattle.tick.specs.Run.{MOST, left_of, record_for}
use Rattle.tick.specs.Lists.{GraphOf}
use Rattle.tick.proofs.Records.{record-state}
use Rattle.tick.proofs.Awaited.{settled-awaited}
use Rattle.ready.specs.Ready.{some_left}
use Rattle.starts.specs.Starts.{first_edge}
use Rattle.remains.specs.Remains.{TOP}
use Rattle.leaps.specs.Finishes.{done_at, finish_of}
use Rattle.leaps.specs.Leaps.{Work, work_of, Timed, Leapt, Fresh, Kept, record_at_of, until_of, Stopped, end_of}
use Rattle.leaps.specs.declared.Moment.{Moment}
use Rattle.leaps.specs.declared.Ended.{Ended}
use Rattle.leaps.proofs.Leaping.{in_time-start, later, keeps_on, not_sooner, none-busy, at-finish, all-stamped}

-- what holds of it between two leaps
pub record Playing (g : Graph) (e : ℕ → ℕ) (d : ℕ) (w : Work) : Type 0 where
  pub kept : Kept g e w
  pub by : w.run.instant ≤ d

-- how many leaps there may be still, where the instant is t: each ends the ticks of a busy vertex, or is the last
abbrev pub leaps_left : ℕ → ℕ → (ℕ → Bool) → ℕ
leaps_left d t busy = pick (ltb t d) (count busy 128) 0

pick_most : (b : Bool) (x : ℕ) → pick b x 0 ≤ x
pick_most true x = omega arith
pick_most false x = omega arith

module _ (g : Graph) (A : AcceptedGraph g) (e : ℕ → ℕ) (d : ℕ) where
  abbrev G : model.Graph
  G = as_model g

  module _ (w new : Work) (P : Playing g e d w) (some-busy : 0 < count (is_in w.busy) 128) (l : w.run.instant < d) (leapt : Leapt g (d - w.run.instant) w new) where
    then : new.run.instant ≡ w.run.instant + leapt.d
    then = later g A e (d - w.run.instant) w new P.kept some-busy leapt

    pub plays_on : Playing g e d new
    plays_on = record { kept = keeps_on g A e (d - w.run.instant) w new P.kept some-busy leapt; by = omega (arith, then, leapt.no_further) }

    pub fewer_leaps : leaps_left d new.run.instant (is_in new.busy) < leaps_left d w.run.instant (is_in w.busy)
    fewer_leaps = rw (lt-ltb w.run.instant d l) (go leapt.fewer)
      where
        go : (count (is_in new.busy) 128 < count (is_in w.busy) 128) ⊎ (leapt.d ≡ d - w.run.instant)
            → pick (ltb new.run.instant d) (count (is_in new.busy) 128) 0 < count (is_in w.busy) 128
        go (inl f) = omega (arith, pick_most (ltb new.run.instant d) (count (is_in new.busy) 128))
        go (inr c) = rw (le-ltb new.run.instant d (omega (arith, then))) some-busy

  -- ---- where it stops

  module _ (m : Moment) (left waiting fins : List ℕ) (P : Playing g e d (work_of g m left waiting fins)) (stop : (count (is_in m.busy) 128 ≡ 0) ⊎ (d ≤ m.instant)) where
    abbrev w : Work
    w = work_of g m left waiting fins

    stops_at : m.instant ≡ min d (finish_of G e)
    stops_at = ⊎_elim
        (λ (z : count (is_in m.busy) 128 ≡ 0). omega (arith, at-finish g A e w P.kept z, P.by))
        (λ (l : d ≤ m.instant). omega (arith, not_sooner g A e w P.kept, P.by))
        stop

    -- THEOREM. The record is that of the list schedule, at the instant d or at the finish; and where the finish is at most d, each vertex has
    -- its finish instant.
    pub stops : m.ran.lo < 2 ^ 64 → m.ran.hi < 2 ^ 64 → Stopped g e d m left waiting fins
    unfolding until_of some_left left_of
    stops low high =
        let s = P.kept.sound in
        record {
          run = record-state g A w.run refl s.long_left s.past low high (settled-awaited g A (left_of w.run) (is_in m.busy) s.is_busy waiting m.behind s.settled)
              ∙ ap (record_for (as_model g) m.instant) P.kept.state
              ∙ ap (record_at_of g e) stops_at;
          whole = λ h. all-stamped g A e w P.kept (none-busy g A e w P.kept (omega (arith, stops_at)));
        }

-- ---- from the start on

module _ (g : Graph) (A : AcceptedGraph g) where
  -- the graph's own lists are lent
  pub lent : (starts : List ℕ) → starts ≡ table (first_edge g) 129 → GraphOf g g.kinds g.n g.cores g.kind g.edge starts
  lent starts e = record {
    edges = record { accepted = A; n_is = refl; edges_are = refl; starts_are = e };
    kinds_are = refl;
    cores_are = refl;
    kind_is = refl;
  }

  module _ (r : Run) (fresh : Fresh g r) where
    -- a run takes no more ticks than there are in all, and these are below the highest number
    in_time : finish_of (as_model g) (left_of r) ≤ MOST
    unfolding finish_of as_model
    in_time = omega (arith, in_time-start g A r fresh, first-le (λ t. every (done_at (as_model g) (left_of r) t) g.n) (sum (left_of r) g.n))

    pub timed : length r.left ≡ 128 → Timed g r.left r.waiting
    unfolding left_of
    timed long = record { long = long; short = fresh.short; past = fresh.past; numbers = fresh.numbers }

    pub ran-whole : (m : Moment) (left wait fins : List ℕ) → Stopped g (left_of r) TOP m left wait fins → ◌≡◌ {A = Ended} (record { instant = m.instant; finishes = fins }) (end_of g (left_of r))
    unfolding end_of until_of record_for
    ran-whole m left wait fins S =
        let t : m.instant ≡ min TOP (finish_of (as_model g) (left_of r)) = ap (λ (x : Run). x.instant) S.run in
        let f : m.instant ≡ finish_of (as_model g) (left_of r) = omega (arith, t, in_time) in
        ap₂ {C = Ended} (λ (x : ℕ) (l : List ℕ). record { instant = x; finishes = l }) f (S.whole (omega (arith, in_time)))
