-- Order 11, change by change: one kind gets more cores, one WCET is lowered, one edge is removed, and several such changes one after the other. Each
-- gives a graph that is better or looser, so that what Better says of these holds.
use mathlib.Core.Path.{◌≡◌, refl, ◌∙◌}
use mathlib.Core.Bool.{Bool, true, false, not, ◌&&◌}
use Prim.Native.Nat.{ℕ, ◌≤◌, ◌<◌}
use native.Mathlib.Omega.{arith}
use lib.Dec.{eqb}
use borrow.Author.Tests.{eqb-true}
use Rattle.model.specs.Places.{pick}
use Rattle.model.specs.Graph.{Graph, Edge, WellFormed}
use Rattle.model.specs.Cycle.{Acyclic}
use Rattle.model.specs.Bounds.{NewB1}
use Rattle.model.specs.Second.{NewB2}
use Rattle.model.specs.Gain.{with_wcet}
use Rattle.model.specs.Better.{NoWorse, Better, Looser, with_cores, without_edge, SameGraph, Improved, raised, lowered, Loosened, improved, removed, Several, none, further}
use Rattle.model.proofs.Bools.{left-of}
use Rattle.model.proofs.Cycles.{walk_within}
use Rattle.model.proofs.Alike.{wcet_well_formed}
use Rattle.model.proofs.Better.{better_second, better_new, looser_new, better_looser, looser_acyclic}

-- ---- one kind, one vertex, one edge

pick_cases : (C : ℕ → Type 0) (r s a b : ℕ) → (r ≡ s → C a) → C b → C (pick (eqb r s) a b)
pick_cases C r s a b f x = go (eqb r s) refl
  where
    go : (c : Bool) → eqb r s ≡ c → C (pick c a b)
    go true t = f (eqb-true r s t)
    go false t = x

pub cores_well : {G : Graph} → WellFormed G → (s m : ℕ) → (s < G.kinds → 0 < m) → m ≤ 16 → WellFormed (with_cores G s m)
cores_well {G} W s m l h = record {
  some = W.some;
  from = W.from;
  to = W.to;
  kind_known = W.kind_known;
  some_core = λ r k. pick_cases (λ x. 0 < x) r s m (G.cores r) (λ e. l (rw e at k)) (W.some_core r k);
  few_cores = λ r k. pick_cases (λ x. x ≤ 16) r s m (G.cores r) (λ e. h) (W.few_cores r k);
}

pub cores-acyclic : {G : Graph} → Acyclic G → (s m : ℕ) → Acyclic (with_cores G s m)
cores-acyclic A s m v x = A v (walk_within (λ u w e. e) x)

cores_better : {G : Graph} (s m : ℕ) → G.cores s ≤ m → Better G (with_cores G s m)
cores_better {G} s m l = record {
  no_worse = record {
    same_n = refl;
    same_kinds = refl;
    same_kind = λ v k. refl;
    more_cores = λ r k. pick_cases (λ x. G.cores r ≤ x) r s m (G.cores r) (λ e. rw e l) (omega arith);
    less_work = λ v k. omega arith;
  };
  same_edges = λ u v. refl;
}

more-well : {G : Graph} → WellFormed G → (s m : ℕ) → G.cores s ≤ m → m ≤ 16 → WellFormed (with_cores G s m)
more-well W s m l h = cores_well W s m (λ k. omega (arith, W.some_core s k)) h

module _ {G : Graph} (W : WellFormed G) (s m : ℕ) (l : G.cores s ≤ m) (h : m ≤ 16) where
  -- THEOREM. One kind gets more cores, up to 16: neither bound rises.
  pub cores-new : Acyclic G → (B B' : ℕ) → NewB1 G B → NewB1 (with_cores G s m) B' → B' ≤ B
  cores-new A = better_new W (more-well W s m l h) A (cores_better s m l)

  pub cores-second : (B B' : ℕ) → NewB2 G B → NewB2 (with_cores G s m) B' → B' ≤ B
  cores-second = better_second W (more-well W s m l h) (cores_better s m l)

-- THEOREM. Of two numbers of cores for one kind, all else as declared, the larger one gives no larger NEW-B-1.
pub cores-between : {G : Graph} → WellFormed G → Acyclic G → (s a b : ℕ) → 0 < a → a ≤ b → b ≤ 16 → (B B' : ℕ) → NewB1 (with_cores G s a) B → NewB1 (with_cores G s b) B' → B' ≤ B
cores-between {G} W A s a b z l h =
    better_new (cores_well W s a (λ k. z) (omega arith)) (cores_well W s b (λ k. omega arith) h) (cores-acyclic A s a)
    (record {
      no_worse = record {
        same_n = refl;
        same_kinds = refl;
        same_kind = λ v k. refl;
        more_cores = λ r k. each r (eqb r s);
        less_work = λ v k. omega arith;
      };
      same_edges = λ u v. refl;
    })
  where
    each : (r : ℕ) (c : Bool) → pick c a (G.cores r) ≤ pick c b (G.cores r)
    each r true = l
    each r false = omega arith

wcet_better : {G : Graph} (v c : ℕ) → c ≤ G.wcet v → Better G (with_wcet G v c)
unfolding with_wcet
wcet_better {G} v c l = record {
  no_worse = record {
    same_n = refl;
    same_kinds = refl;
    same_kind = λ w k. refl;
    more_cores = λ r k. omega arith;
    less_work = λ w k. pick_cases (λ x. x ≤ G.wcet w) w v c (G.wcet w) (λ e. rw e l) (omega arith);
  };
  same_edges = λ a b. refl;
}

module _ {G : Graph} (W : WellFormed G) (v c : ℕ) (l : c ≤ G.wcet v) where
  -- THEOREM. One WCET is lowered: neither bound rises.
  pub wcet-new : Acyclic G → (B B' : ℕ) → NewB1 G B → NewB1 (with_wcet G v c) B' → B' ≤ B
  wcet-new A = better_new W (wcet_well_formed W v c) A (wcet_better v c l)

  pub wcet-second : (B B' : ℕ) → NewB2 G B → NewB2 (with_wcet G v c) B' → B' ≤ B
  wcet-second = better_second W (wcet_well_formed W v c) (wcet_better v c l)

kept : (G : Graph) (u v a b : ℕ) → Edge (without_edge G u v) a b → Edge G a b
kept G u v a b x = left-of (G.edge a b) (not (eqb a u && eqb b v)) x

without_looser : {G : Graph} (u v : ℕ) → Looser G (without_edge G u v)
without_looser {G} u v = record {
  no_worse = record { same_n = refl; same_kinds = refl; same_kind = λ w k. refl; more_cores = λ r k. omega arith; less_work = λ w k. omega arith };
  old_edges = kept G u v;
}

module _ {G : Graph} (W : WellFormed G) (u v : ℕ) where
  pub without_well : WellFormed (without_edge G u v)
  without_well = record {
    some = W.some;
    from = λ a b x. W.from a b (kept G u v a b x);
    to = λ a b x. W.to a b (kept G u v a b x);
    kind_known = W.kind_known;
    some_core = W.some_core;
    few_cores = W.few_cores;
  }

  pub without-acyclic : Acyclic G → Acyclic (without_edge G u v)
  without-acyclic A = looser_acyclic W without_well A (without_looser u v)

  -- THEOREM. One edge is removed: NEW-B-1 does not rise.
  pub without-new : Acyclic G → (B B' : ℕ) → NewB1 G B → NewB1 (without_edge G u v) B' → B' ≤ B
  without-new A = looser_new W without_well A (without_looser u v)

-- ---- several changes, one after the other

no-worse_trans : {G H K : Graph} → NoWorse G H → NoWorse H K → NoWorse G K
no-worse_trans a b = record {
  same_n = b.same_n ∙ a.same_n;
  same_kinds = b.same_kinds ∙ a.same_kinds;
  same_kind = λ v l. b.same_kind v (omega (arith, a.same_n)) ∙ a.same_kind v l;
  more_cores = λ s l. omega (arith, a.more_cores s l, b.more_cores s (omega (arith, a.same_kinds)));
  less_work = λ v l. omega (arith, a.less_work v l, b.less_work v (omega (arith, a.same_n)));
}

better_trans : {G H K : Graph} → Better G H → Better H K → Better G K
better_trans a b = record { no_worse = no-worse_trans a.no_worse b.no_worse; same_edges = λ u v. b.same_edges u v ∙ a.same_edges u v }

looser_trans : {G H K : Graph} → Looser G H → Looser H K → Looser G K
looser_trans a b = record { no_worse = no-worse_trans a.no_worse b.no_worse; old_edges = λ u v x. a.old_edges u v (b.old_edges u v x) }

same_better : {G H : Graph} → SameGraph G H → Better G H
same_better e = record {
  no_worse = record {
    same_n = e.same_n;
    same_kinds = e.same_kinds;
    same_kind = e.same_kind;
    more_cores = λ s l. omega (arith, e.same_cores s l);
    less_work = λ v l. omega (arith, e.same_wcet v l);
  };
  same_edges = e.same_edges;
}

pub improved_better : {G H : Graph} → Improved G H → Better G H
improved_better (raised s m l e) = better_trans (cores_better s m l) (same_better e)
improved_better (lowered v c l e) = better_trans (wcet_better v c l) (same_better e)

pub loosened_looser : {G H : Graph} → Loosened G H → Looser G H
loosened_looser (improved i) = better_looser (improved_better i)
loosened_looser (removed u v e) = looser_trans (without_looser u v) (better_looser (same_better e))

pub several_better : {G H : Graph} → Several Improved G H → Better G H
several_better none = same_better (record { same_n = refl; same_kinds = refl; same_kind = λ v l. refl; same_cores = λ s l. refl; same_wcet = λ v l. refl; same_edges = λ u v. refl })
several_better (further m i) = better_trans (several_better m) (improved_better i)

pub several_looser : {G H : Graph} → Several Loosened G H → Looser G H
several_looser none = better_looser (several_better none)
several_looser (further m i) = looser_trans (several_looser m) (loosened_looser i)
