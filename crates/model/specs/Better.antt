-- Two graphs of which the second has better hardware, less work, or fewer edges (order 11). One WCET lowered is `with_wcet` (Gain).
--
--   NoWorse G H           the same vertices and kinds; H has at least as many cores of each kind, and no WCET above that of G
--   Better G H            the same, and the same edges: H is G on a better board, or with less work
--   Looser G H            the same, and no edge that G has not: edges may be missing besides
--   with_cores G s m       G with m cores of kind s
--   without_edge G u v     G without the edge from u to v
--   SameGraph G H         nothing is told apart in G and H: vertices, kinds, cores, WCETs, edges
--   Improved G H          one change, other things equal: one kind has more cores, or one WCET is lowered
--   Loosened G H          one change: that, or one edge is removed
--   Several R G H         changes of the sort R, one after the other, lead from G to H
use Rattle.std.specs.Prelude.{◌≡◌, not, ◌&&◌, ℕ, ◌≤◌, ◌<◌, eqb}
use Rattle.model.specs.Places.{pick}
use Rattle.model.specs.Graph.{Graph, Edge}
use Rattle.model.specs.Gain.{with_wcet}

pub record NoWorse (G H : Graph) : Type 0 where
  pub same_n : H.n ≡ G.n
  pub same_kinds : H.kinds ≡ G.kinds
  pub same_kind : (v : ℕ) → v < G.n → H.kind v ≡ G.kind v
  pub more_cores : (s : ℕ) → s < G.kinds → G.cores s ≤ H.cores s
  pub less_work : (v : ℕ) → v < G.n → H.wcet v ≤ G.wcet v

pub record Better (G H : Graph) : Type 0 where
  pub no_worse : NoWorse G H
  pub same_edges : (u v : ℕ) → H.edge u v ≡ G.edge u v

pub record Looser (G H : Graph) : Type 0 where
  pub no_worse : NoWorse G H
  pub old_edges : (u v : ℕ) → Edge H u v → Edge G u v

abbrev pub with_cores : Graph → ℕ → ℕ → Graph
with_cores G s m = record { n = G.n; kinds = G.kinds; kind = G.kind; cores = λ r. pick (eqb r s) m (G.cores r); wcet = G.wcet; edge = G.edge }

abbrev pub without_edge : Graph → ℕ → ℕ → Graph
without_edge G u v = record {
  n = G.n;
  kinds = G.kinds;
  kind = G.kind;
  cores = G.cores;
  wcet = G.wcet;
  edge = λ a b. G.edge a b && not (eqb a u && eqb b v);
}

pub record SameGraph (G H : Graph) : Type 0 where
  pub same_n : H.n ≡ G.n
  pub same_kinds : H.kinds ≡ G.kinds
  pub same_kind : (v : ℕ) → v < G.n → H.kind v ≡ G.kind v
  pub same_cores : (s : ℕ) → s < G.kinds → H.cores s ≡ G.cores s
  pub same_wcet : (v : ℕ) → v < G.n → H.wcet v ≡ G.wcet v
  pub same_edges : (u v : ℕ) → H.edge u v ≡ G.edge u v

pub data Improved (G H : Graph) : Type 0 where
  raised : (s m : ℕ) → G.cores s ≤ m → SameGraph (with_cores G s m) H → Improved G H
  lowered : (v c : ℕ) → c ≤ G.wcet v → SameGraph (with_wcet G v c) H → Improved G H

pub data Loosened (G H : Graph) : Type 0 where
  improved : Improved G H → Loosened G H
  removed : (u v : ℕ) → SameGraph (without_edge G u v) H → Loosened G H

pub data Several (R : Graph → Graph → Type 0) (G : Graph) : Graph → Type 0 where
  none : Several R G G
  further : {H K : Graph} → Several R G H → R H K → Several R G K
