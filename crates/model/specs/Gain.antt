-- What a rewrite would gain (order 1).
--
--   with_wcet G v x      G with the WCET of v set to x
--   GainOf G v x        x is the gain of v: NEW-B-1 of G less NEW-B-1 of the same graph with the WCET of v set to 0, in parts
use Rattle.std.specs.Prelude.{◌≡◌, ℕ, ◌+◌, eqb}
use Rattle.model.specs.Places.{pick}
use Rattle.model.specs.Graph.{Graph}
use Rattle.model.specs.Bounds.{NewB1}

unfoldable pub with_wcet : Graph → ℕ → ℕ → Graph
with_wcet G v x = record {
  n = G.n;
  kinds = G.kinds;
  kind = G.kind;
  cores = G.cores;
  wcet = λ u. pick (eqb u v) x (G.wcet u);
  edge = G.edge;
}

-- said as a sum, so that no difference is cut off at 0
pub record GainOf (G : Graph) (v x : ℕ) : Type 0 where
  pub now : ℕ
  pub then : ℕ
  pub now_is : NewB1 G now
  pub then_is : NewB1 (with_wcet G v 0) then
  pub is : then + x ≡ now
