-- The rows of predecessors, edge by edge.
use mathlib.Core.Path.{◌≡◌, sym, ap, ◌∙◌}
use mathlib.Core.Bool.{Bool, ◌&&◌, ◌||◌}
use mathlib.Core.List.{List}
use Prim.Native.Nat.{ℕ, ◌+◌, ◌<◌}
use lib.Dec.{eqb}
use borrow.Author.Tests.{eq-eqb, eqb-true}
use Rattle.model.specs.Places.{any}
use Rattle.model.proofs.Bools.{same_test, both, left-of, right_of}
use Rattle.model.proofs.Places.{any-more}
use Rattle.starts.specs.Starts.{comes_from, leads_to}
use Rattle.sets.specs.Sets.{empty, Holds, joined}
use Rattle.sets.proofs.Tables.{empty-table, empty_in}
use Rattle.sets.proofs.Joining.{joined-holds}
use Rattle.rows.specs.Rows.{predecessor}

module _ (l : List ℕ) where
  pub none_yet : Holds empty (predecessor l 0)
  unfolding predecessor any
  none_yet = record { table = empty-table; row = λ v u h. empty_in v u h }

  predecessor-next : (i v u : ℕ) → predecessor l (i + 1) v u ≡ predecessor l i v u || (eqb (comes_from l i) u && eqb (leads_to l i) v)
  unfolding predecessor
  predecessor-next i v u = any-more (λ i. eqb (comes_from l i) u && eqb (leads_to l i) v) i

  -- two equations, turned round
  turned : (a b c d : ℕ) → eqb a b && eqb c d ≡ eqb d c && eqb b a
  turned a b c d =
      same_test (eqb a b && eqb c d) (eqb d c && eqb b a)
      (λ h. both (eqb d c) (eqb b a) (eq-eqb d c (sym (eqb-true c d (right_of (eqb a b) (eqb c d) h)))) (eq-eqb b a (sym (eqb-true a b (left-of (eqb a b) (eqb c d) h)))))
      (λ h. both (eqb a b) (eqb c d) (eq-eqb a b (sym (eqb-true b a (right_of (eqb d c) (eqb b a) h)))) (eq-eqb c d (sym (eqb-true d c (left-of (eqb d c) (eqb b a) h)))))

  -- the edge at place i goes to v: row v gets the vertex that it comes from
  pub one_more : (t : List (List ℕ)) (i : ℕ) → comes_from l i < 128 → leads_to l i < 128 → Holds t (predecessor l i) → Holds (joined t (leads_to l i) (comes_from l i)) (predecessor l (i + 1))
  one_more t i f h H =
      let J = joined-holds (leads_to l i) (comes_from l i) H h f in
      record {
        table = J.table;
        row = λ v u k. J.row v u k ∙ ap (λ (b : Bool). predecessor l i v u || b) (turned v (leads_to l i) u (comes_from l i)) ∙ sym (predecessor-next i v u);
      }
