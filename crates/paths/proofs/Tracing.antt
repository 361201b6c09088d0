-- The path as the code writes it: what is written so far, and the vertex that is next.
use mathlib.Core.Path.{◌≡◌, refl, sym, ap, ◌∙◌}
use mathlib.Core.List.{List, [], ◌∷◌, ◌++◌, append_assoc}
use mathlib.Core.Logic.{◌⊎◌, inl, inr}
use Prim.Native.Nat.{ℕ, ◌+◌, ◌≤◌, ◌<◌}
use native.Mathlib.Omega.{arith}
use native.Mathlib.Decide.{ℕ_discrete}
use lib.ListN.{get_or, length, set, drop, length-append, length-set}
use Rattle.model.specs.Places.{along}
use Rattle.model.specs.Graph.{Edge, Sink}
use Rattle.model.specs.Graph as model
use Rattle.model.specs.Path.{ToSink, end, link}
use Rattle.model.proofs.Bools.{le-or-lt}
use Rattle.model.proofs.Tables.{set_next}
use Rattle.model.proofs.Cycles.{ranked}
use Rattle.model.proofs.Paths.{to_sink, path-short}
use Rattle.graph.specs.Model.{as_model}
use Rattle.graph.specs.declared.Graph.{Graph}
use Rattle.graph.proofs.Edges.{to-ascends}
use Rattle.paths.specs.Ahead.{weigh, Longest, RowsOf}
use Rattle.paths.specs.Along.{goes, Visitable}
use Rattle.paths.specs.Trace.{Trace, stop, on, Traceable, Traced, Keeps, Onward, by_edge, at_end}
use Rattle.paths.proofs.Sums.{goes_to, row-edge, row-joins, row_of, visitable}
use Rattle.paths.proofs.Complete.{ahead_small}

-- one edge more that does not keep the sum
pub unkept_more : (e w s : List ℕ) (u a i v : ℕ) → v ≡ goes e i → (weigh w v + get_or s v 0 ≡ get_or s u 0 → ⊥) → ((j : ℕ) → a ≤ j → j < i → Keeps e w s u j → ⊥)
    → (j : ℕ) → a ≤ j → j < i + 1 → Keeps e w s u j → ⊥
unkept_more e w s u a i v q x f j l m k = go (ℕ_discrete j i)
  where
    go : Dec (j ≡ i) → ⊥
    go (yes z) = x (rw (q, ← z) k)
    go (no z) = f j l (omega arith) k

-- where the path goes on from u, or that it ends there
record Next (G : model.Graph) (f s : ℕ → ℕ) (u v : ℕ) : Type 0 where
  edge : v < 128 → Edge G u v
  keeps : v < 128 → f v + s v ≡ s u
  least : v < 128 → (x : ℕ) → Edge G u x → f x + s x ≡ s u → v ≤ x
  sink : 128 ≤ v → Sink G u

module _ {g : Graph} {e st w s : List ℕ} {h : ℕ} {old : List ℕ} (T : Traceable g e st w s h old) (u : ℕ) (known : u < g.n) where
  R : RowsOf g e st
  R = T.rows

  L : Longest (as_model g) (weigh w) s
  L = T.longest

  pub trace_visitable : Visitable e st w s u
  unfolding as_model
  trace_visitable =
      let G = R.accepted in
      visitable R T.light s 92252160000000 (ahead_small G.well_formed G.acyclic G.few_vertices w s T.light L) (omega arith) u known

  -- an edge of a longest path keeps the sum
  kept : (x : ℕ) (p : List ℕ) → Edge (as_model g) u x → ToSink (as_model g) (x ∷ p) → along (weigh w) (x ∷ p) ≡ get_or s u 0 → weigh w x + get_or s x 0 ≡ get_or s u 0
  unfolding along as_model
  kept x p d c h =
      let W = R.accepted.well_formed in
      let a = L.ahead x (W.to u x d) in
      omega (arith, a.attained, a.unexceeded p c, (L.ahead u known).unexceeded (x ∷ a.path) (link d a.to_sink))

  onward-next : {v : ℕ} → Onward e st w s u v → Next (as_model g) (weigh w) (weigh s) u v
  unfolding as_model along
  onward-next (at_end none) = record { edge = λ l. absurd (omega arith); keeps = λ l. absurd (omega arith); least = λ l. absurd (omega arith); sink = λ l. let a = L.ahead u known in go a.path a.to_sink a.attained }
    where
      go : (p : List ℕ) → ToSink (as_model g) (u ∷ p) → along (weigh w) p ≡ get_or s u 0 → Sink (as_model g) u
      go [] (end m t) h = t
      go (x ∷ p) (link d c) h = let r = row_of R u x d in absurd (none r.0 r.1 r.2 (rw r.3 (kept x p d c h)))
  onward-next (by_edge i v a b q k below) = record { edge = λ l. edge; keeps = λ l. rw q k; least = λ l x d h. least x d h; sink = λ l. absurd (omega (arith, R.accepted.well_formed.to u v edge, R.accepted.few_vertices)) }
    where
      edge : Edge (as_model g) u v
      edge = rw q (row-joins R u i known a b)

      least : (x : ℕ) → Edge (as_model g) u x → weigh w x + get_or s x 0 ≡ get_or s u 0 → v ≤ x
      least x d h = let r = row_of R u x d in go r.0 r.1 r.2 r.3 (le-or-lt i r.0)
        where
          go : (j : ℕ) → get_or st u 0 ≤ j → j < get_or st (u + 1) 0 → goes e j ≡ x → (i ≤ j) ⊎ (j < i) → v ≤ x
          go j c m z (inr n) = absurd (below j c n (rw z h))
          go j c m z (inl n) =
              let I = row-edge R u i known a b in
              let J = row-edge R u j known c m in
              omega (arith, q, z, goes_to R i, goes_to R j, to-ascends R.accepted i j n J.0 (I.1 ∙ sym J.1))

-- l is h and a trace from it
pub record From (G : model.Graph) (f s : ℕ → ℕ) (h : ℕ) (l : List ℕ) : Type 0 where
  pub rest : List ℕ
  pub is : l ≡ h ∷ rest
  pub trace : Trace G f s h rest

-- the first n vertices are written, and v is next
pub record Tracing (G : model.Graph) (f s : ℕ → ℕ) (h : ℕ) (old new : List ℕ) (n v : ℕ) : Type 0 where
  pub done : List ℕ
  pub count : n ≡ length done
  pub size : length new ≡ length old
  pub held : new ≡ done ++ drop n old
  pub known : v < 128 → v < G.n
  pub to_sink : v < 128 → (p : List ℕ) → ToSink G (v ∷ p) → ToSink G (done ++ (v ∷ p))
  pub trace : v < 128 → (p : List ℕ) → Trace G f s v p → From G f s h (done ++ (v ∷ p))
  pub ended : 128 ≤ v → From G f s h done

pub tracing_none : {g : Graph} {e st w s : List ℕ} {h : ℕ} {old : List ℕ} → Traceable g e st w s h old → Tracing (as_model g) (weigh w) (weigh s) h old old 0 h
unfolding as_model
tracing_none T = record {
  done = [];
  count = refl;
  size = refl;
  held = refl;
  known = λ m. T.vertex;
  to_sink = λ m p t. t;
  trace = λ m p t. record { rest = p; is = refl; trace = t };
  ended = λ m. absurd (omega (arith, T.vertex, T.rows.accepted.few_vertices));
}

module _ {g : Graph} {e st w s : List ℕ} {h : ℕ} {old : List ℕ} (T : Traceable g e st w s h old) (new : List ℕ) (n v : ℕ) (P : Tracing (as_model g) (weigh w) (weigh s) h old new n v) where
  -- a path has at most N vertices, so there is a place left
  pub tracing_room : v < 128 → n < g.n
  unfolding as_model
  tracing_room l =
      let G = T.rows.accepted in
      let t = to_sink G.well_formed (ranked G.well_formed G.acyclic) v (P.known l) in
      omega (arith, P.count, path-short G.well_formed G.acyclic (P.to_sink l t.0 t.1), length-append P.done (v ∷ t.0))

  pub tracing_more : (x : ℕ) → v < 128 → Onward e st w s v x → Tracing (as_model g) (weigh w) (weigh s) h old (set new n v) (n + 1) x
  unfolding as_model
  tracing_more x l O =
      record {
        done = P.done ++ (v ∷ []);
        count = omega (arith, P.count, length-append P.done (v ∷ []));
        size = length-set new n v ∙ P.size;
        held = ap (λ (q : List ℕ). set q n v) P.held ∙ set_next old P.done v n (sym P.count) (omega (arith, tracing_room l, T.room));
        known = λ k. T.rows.accepted.well_formed.to v x (N.edge k);
        to_sink = λ k p t. rw (append_assoc P.done (v ∷ []) (x ∷ p)) (P.to_sink l (x ∷ p) (link (N.edge k) t));
        trace = λ k p t. rw (append_assoc P.done (v ∷ []) (x ∷ p)) (P.trace l (x ∷ p) (on (N.edge k) (N.keeps k) (N.least k) t));
        ended = λ k. P.trace l [] (stop (P.known l) (N.sink k));
      }
    where
      N : Next (as_model g) (weigh w) (weigh s) v x
      N = onward-next T v (P.known l) O

  pub tracing_done : 128 ≤ v → Traced (as_model g) (weigh w) (weigh s) h old new n
  tracing_done l =
      let d = P.ended l in
      record {
        rest = d.rest;
        trace = d.trace;
        count = P.count ∙ ap length d.is;
        held = P.held ∙ ap (λ (x : List ℕ). x ++ drop n old) d.is;
      }
