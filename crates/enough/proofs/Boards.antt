-- A board that declares m cores of one type and is otherwise the same: its own NEW-B-1 tells whether m meets the limit. And a type that no vertex has:
-- its cores count for nothing, so that 1 meets whatever limit another number does.
use mathlib.Core.Path.{◌≡◌, refl, sym, ap, ◌∙◌}
use mathlib.Core.Bool.{Bool, true, false}
use mathlib.Core.Logic.{◌↔◌}
use Prim.Native.Nat.{ℕ, ◌/◌, ◌≤◌, ◌<◌}
use native.Mathlib.Omega.{arith}
use lib.Dec.{eqb}
use borrow.Author.Tests.{eq-eqb, ne_eqb, eqb-true}
use Rattle.model.specs.Places.{pick}
use Rattle.model.specs.Graph.{Graph, WellFormed}
use Rattle.model.specs.Cycle.{Acyclic}
use Rattle.model.specs.Bounds.{PARTS, NewB1}
use Rattle.model.specs.Better.{with_cores, SameGraph}
use Rattle.model.proofs.Longest.{new_b_1_unique}
use Rattle.model.proofs.Changes.{cores_well}
use Rattle.bounds.proofs.Unused.{new_b_1_same}
use Rattle.enough.specs.Answers.{Meets}
use Rattle.enough.proofs.Meeting.{meets-within, new-there}

new-same : {G H : Graph} {B : ℕ} → WellFormed G → WellFormed H → SameGraph G H → NewB1 G B → NewB1 H B
new-same {G} W X S =
    new_b_1_same W X (record { vertices = sym S.same_n; edges = λ u v. sym (S.same_edges u v) }) (λ v l. sym (S.same_wcet v l))
    (λ v l. sym (rw (S.same_kind v l) (S.same_cores (G.kind v) (W.kind_known v l))))

module _ {G H : Graph} (W : WellFormed G) (A : Acyclic G) (X : WellFormed H) (s m : ℕ) (known : s < G.kinds) (S : SameGraph (with_cores G s m) H) where
  declares : H.cores s ≡ m
  declares = S.same_cores s known ∙ ap (λ (b : Bool). pick b m (G.cores s)) (eq-eqb s s refl)

  pub board-least : 1 ≤ m
  board-least = omega (arith, declares, X.some_core s (omega (arith, S.same_kinds)))

  pub board-most : m ≤ 16
  board-most = omega (arith, declares, X.few_cores s (omega (arith, S.same_kinds)))

  -- THEOREM. It meets the limit exactly where the board's whole ticks are at or below it.
  pub board-tells : {d B : ℕ} → NewB1 H B → Meets G s d m ↔ (B / PARTS ≤ d)
  board-tells {d} {B} x =
      let y = new-there W A s m board-least board-most in
      let e = new_b_1_unique B y.0 x (new-same (cores_well W s m (λ l. omega (arith, board-least)) board-most) X S y.1) in
      rw e (meets-within y.1)

-- THEOREM. The graph as it is declared is one with the declared number.
pub as_declared : (G : Graph) (s : ℕ) → SameGraph (with_cores G s (G.cores s)) G
as_declared G s = record {
  same_n = refl;
  same_kinds = refl;
  same_kind = λ v l. refl;
  same_cores = λ r l. each r (eqb r s) refl;
  same_wcet = λ v l. refl;
  same_edges = λ u v. refl;
}
  where
    each : (r : ℕ) (b : Bool) → eqb r s ≡ b → G.cores r ≡ pick b (G.cores s) (G.cores r)
    each r true t = ap G.cores (eqb-true r s t)
    each r false t = refl

-- THEOREM. Of a type that no vertex has, 1 core meets whatever limit another number does.
pub unused_one : {G : Graph} → WellFormed G → (s : ℕ) → ((v : ℕ) → v < G.n → G.kind v ≡ s → ⊥) → {d : ℕ} (m : ℕ) → 1 ≤ m → m ≤ 16 → Meets G s d m → Meets G s d 1
unused_one {G} W s unused m l k M = record {
  new = M.new;
  is_new = new_b_1_same (cores_well W s m (λ j. omega arith) k) (cores_well W s 1 (λ j. omega arith) (omega arith)) (record { vertices = refl; edges = λ u v. refl })
      (λ v j. refl)
      (λ v j. let e = ne_eqb (G.kind v) s (unused v j) in rw e refl)
      M.is_new;
  within = M.within;
}
