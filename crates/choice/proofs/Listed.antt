-- Who runs by the definitions here is who runs in the model's list schedule, by any test that tells who is ready.
use mathlib.Core.Path.{◌≡◌, refl, sym, ap, ap₂, ◌∙◌}
use mathlib.Core.Logic.{⊎_elim}
use mathlib.Core.Bool.{Bool, not, ◌&&◌, ◌||◌, and-true, and-false}
use Prim.Native.Nat.{ℕ, ◌-◌, ◌≤◌, ◌<◌}
use native.Mathlib.Omega.{arith}
use lib.Dec.{ltb}
use lib.ListN.{get_or}
use borrow.Author.Tests.{eq-eqb}
use Rattle.model.specs.Places.{count}
use Rattle.model.specs.ListSchedule.{State, ready, goes_on_next, waits, chosen}
use Rattle.model.proofs.Bools.{le-or-lt}
use Rattle.model.proofs.Places.{count_ext}
use Rattle.model.proofs.Leap.{ready-past}
use Rattle.graph.specs.declared.Graph.{Graph}
use Rattle.graph.specs.Model.{as_model, AcceptedGraph}
use Rattle.model.proofs.Turns.{count_past}
use Rattle.choice.specs.Choice.{of_kind_of, go_on, wait, filled, choice}
use Rattle.choice.proofs.ByKind.{of-kind-past, of-kind-below}

module _ (g : Graph) (A : AcceptedGraph g) (s : State) (past : (v : ℕ) → g.n ≤ v → s.rest v ≡ 0) (able : ℕ → Bool)
    (is-able : (v : ℕ) → able v ≡ ready (as_model g) s.rest v) where
  waiting : (k v : ℕ) → v ≤ g.n → count (waits (as_model g) s k) v ≡ count (wait able s.ran (of_kind_of g.kind g.n k)) v
  unfolding waits wait as_model
  waiting k v l =
      count_ext (waits (as_model g) s k) (wait able s.ran (of_kind_of g.kind g.n k)) v
      (λ u h. ap₂ (λ (a b : Bool). (a && not (s.ran u)) && b) (sym (is-able u)) (sym (of-kind-below g.kind g.n k u (omega arith))))

  going_on : (k : ℕ) → count (goes_on_next (as_model g) s k) g.n ≡ count (go_on able s.ran (of_kind_of g.kind g.n k)) 128
  unfolding goes_on_next go_on as_model
  going_on k =
      count_ext (goes_on_next (as_model g) s k) (go_on able s.ran (of_kind_of g.kind g.n k)) g.n
      (λ u h. ap₂ (λ (a b : Bool). (a && s.ran u) && b) (sym (is-able u)) (sym (of-kind-below g.kind g.n k u h)))
      ∙ sym (count_past (go_on able s.ran (of_kind_of g.kind g.n k)) g.n 128 A.few_vertices
      (λ v h i. ap (λ (b : Bool). (able v && s.ran v) && b) (of-kind-past g.kind g.n k v h) ∙ and-false (able v && s.ran v)))

  pub chosen_is : (v : ℕ) → choice g able s.ran v ≡ chosen (as_model g) s v
  unfolding choice filled chosen as_model
  chosen_is v = ⊎_elim out into (le-or-lt g.n v)
    where
      k : ℕ
      k = get_or g.kind v 0

      full : Bool
      full = able v && (s.ran v || ltb (count (wait able s.ran (of_kind_of g.kind g.n k)) v) (get_or g.cores k 0 - count (go_on able s.ran (of_kind_of g.kind g.n k)) 128))

      rest : Bool
      rest = s.ran v || ltb (count (waits (as_model g) s k) v) (get_or g.cores k 0 - count (goes_on_next (as_model g) s k) g.n)

      out : g.n ≤ v → full && of_kind_of g.kind g.n k v ≡ ready (as_model g) s.rest v && rest
      out l =
          ap (λ (b : Bool). full && b) (of-kind-past g.kind g.n k v l) ∙ and-false full
          ∙ sym (ap (λ (b : Bool). b && rest) (ready-past A.well_formed s.rest v l (past v l)))

      into : v < g.n → full && of_kind_of g.kind g.n k v ≡ ready (as_model g) s.rest v && rest
      into l =
          ap (λ (b : Bool). full && b) (of-kind-below g.kind g.n k v l ∙ eq-eqb k k refl) ∙ and-true full
          ∙ ap₂ ◌&&◌ (is-able v)
          (ap₂ (λ (x y : ℕ). s.ran v || ltb x (get_or g.cores k 0 - y)) (sym (waiting k v (omega arith))) (sym (going_on k)))
