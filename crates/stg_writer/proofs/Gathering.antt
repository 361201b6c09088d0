-- The predecessors: who is one, gathered edge by edge, and whose they are, as the reader laid it.
use mathlib.Core.Path.{◌≡◌, refl, sym, ◌∙◌}
use mathlib.Core.Bool.{false, ◌||◌}
use mathlib.Core.List.{List}
use Prim.Native.Nat.{ℕ, ◌+◌}
use native.Mathlib.Decide.{ℕ_discrete}
use lib.Dec.{eqb}
use borrow.Author.Tests.{eq-eqb, ne_eqb}
use Rattle.model.specs.Places.{any}
use Rattle.model.proofs.Places.{any-more}
use Rattle.vset.specs.Members.{is_in, Members}
use Rattle.vset.specs.declared.Vset.{Vset}
use Rattle.vset.proofs.Gather.{members_ext}
use Rattle.starts.specs.Starts.{comes_from}
use Rattle.rows.specs.Rows.{predecessor}
use Rattle.reader.specs.Laid.{Usable}
use Rattle.reader.specs.declared.Laid.{Laid}
use Rattle.stg_writer.specs.Before.{joins_in, Gathered}

turned : (a b : ℕ) → eqb a b ≡ eqb b a
turned a b = go (ℕ_discrete a b)
  where
    go : Dec (a ≡ b) → eqb a b ≡ eqb b a
    go (yes e) = eq-eqb a b e ∙ sym (eq-eqb b a (sym e))
    go (no d) = ne_eqb a b d ∙ sym (ne_eqb b a (λ e. d (sym e)))

module _ (l : List ℕ) where
  pub leading_none : {s : Vset} → Members s (λ k. false) → Members s (λ a. any (λ i. eqb (comes_from l i) a) 0)
  unfolding any
  leading_none m = m

  pub leading-more : (m : ℕ) (s s' : Vset) (u : ℕ) → Members s (λ a. any (λ i. eqb (comes_from l i) a) m) → u ≡ comes_from l m → Members s' (λ k. is_in s k || eqb k u)
      → Members s' (λ a. any (λ i. eqb (comes_from l i) a) (m + 1))
  leading-more m s s' u G p M =
      members_ext s' (λ k. is_in s k || eqb k u) (λ a. any (λ i. eqb (comes_from l i) a) (m + 1)) M
      (λ a. rw (G.are a, any-more (λ i. eqb (comes_from l i) a) m, turned a u, p) refl)

pub gathered : {lent : Laid} {s : Vset} → Usable lent → Members s (λ u. any (λ i. eqb (comes_from lent.graph.edge i) u) lent.graph.edges)
    → Gathered lent.graph.edge lent.graph.edges s lent.pred
unfolding joins_in predecessor
gathered U M = record { long = U.rows.table.size; rows = λ u v h k. U.rows.row v u k; some = M.are }
