use mathlib.Core.Path.{◌≡◌, sym, ◌∙◌}
use mathlib.Core.Logic.{⊎_elim}
use mathlib.Core.List.{List}
use Prim.Native.Nat.{ℕ, ◌+◌, ◌-◌, ◌≤◌, ◌<◌, zero-le}
use native.Mathlib.Omega.{arith}
use native.Mathlib.Decide.{ℕ_discrete}
use lib.ListN.{get_or, set, replicate, length-replicate, length-set, get_or-replicate}
use lib.Seq.{get_or-set_same, get_or-set_other}
use Rattle.model.specs.Places.{table}
use Rattle.model.proofs.Bools.{le-or-lt}
use Rattle.model.proofs.Turns.{as_table}
use Rattle.starts.specs.Starts.{start_in}
use Rattle.starts.proofs.Together.{start-in, start-later, start-rises}
use Rattle.starts.proofs.starts.Invariants.{Filled}
use Rattle.starts.proofs.starts.Goals as goal

filled_none : (l : List ℕ) (m : ℕ) → Filled l m 0 (replicate 129 m)
filled_none l m = record { long = length-replicate {A = ℕ} 129 m; below = λ v h. absurd (omega arith); rest = λ v h k. get_or-replicate 129 v m 0 k }

filled_more : (l : List ℕ) (m u : ℕ) (list : List ℕ) → u < 129 → Filled l m u list → Filled l m (u + 1) (set list u (start_in l m u))
filled_more l m u list h F = record {
  long = length-set list u (start_in l m u) ∙ F.long;
  below = λ v k. at v (ℕ_discrete v u) k;
  rest = λ v k b. get_or-set_other list u v (start_in l m u) 0 (λ e. omega arith) ∙ F.rest v (omega arith) b;
}
  where
    at : (v : ℕ) → Dec (v ≡ u) → v < u + 1 → get_or (set list u (start_in l m u)) v 0 ≡ start_in l m v
    at v (yes e) k = rw e (get_or-set_same list u (start_in l m u) 0 (rw F.long h))
    at v (no e) k = get_or-set_other list u v (start_in l m u) 0 e ∙ F.below v (omega arith)

filled-all : (l : List ℕ) (m u : ℕ) (list : List ℕ) → Filled l m u list → ((v : ℕ) → u ≤ v → v < 129 → start_in l m v ≡ m) → list ≡ table (start_in l m) 129
filled-all l m u list F r = as_table (start_in l m) 129 list F.long (λ v h. ⊎_elim (λ (k : u ≤ v). F.rest v k h ∙ sym (r v k h)) (λ (k : v < u). F.below v k) (le-or-lt u v))

-- no edge comes from u or a higher number
none-left : (l : List ℕ) (m u v : ℕ) → m ≤ start_in l m u → u ≤ v → start_in l m v ≡ m
none-left l m u v h k =
    let d : u + (v - u) ≡ v = omega arith in
    let r : start_in l m u ≤ start_in l m v = rw d at (start-rises l m u (v - u)) in
    omega (arith, r, h, start-in l m v)

pub loop-u-init : goal.loop-u-init
loop-u-init c = (filled_none _ _, zero-le)

pub overflow_cast-list-in-loop-u : goal.overflow_cast-list-in-loop-u
overflow_cast-list-in-loop-u c =
    let a = c.args in
    omega (arith, c.start-at.ensures, start-in a.edge.now a.edges c.loop-u.u, c.requires)

pub loop-u-preserved : goal.loop-u-preserved
loop-u-preserved c =
    let a = c.args in
    let l = c.loop-u in
    (rw c.start-at.ensures (filled_more a.edge.now a.edges l.u l.list c.loop-u-test.true l.invariant.0), rw c.start-at.ensures (start-later a.edge.now a.edges l.u))

pub returns-after-loop-u : goal.returns-after-loop-u
returns-after-loop-u c =
    let a = c.args in
    let l = c.loop-u in
    filled-all a.edge.now a.edges l.u l.list l.invariant.0 (λ v h k. absurd (omega arith))

pub returns-then-at-edges : goal.returns-then-at-edges
returns-then-at-edges c =
    let a = c.args in
    let l = c.loop-u in
    filled-all a.edge.now a.edges l.u l.list l.invariant.0 (λ v h k. none-left a.edge.now a.edges l.u v (omega (arith, c.if-at-edges.true, l.invariant.1)) h)
