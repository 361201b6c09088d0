-- Graphs with the same vertices and the same edges have the same paths, whatever their WCETs, kinds and cores; so a graph with one WCET
-- changed has. And what a change of one weight leaves: the sums that end at a vertex which the changed one does not reach, and the
-- sums that start at a vertex which does not reach the changed one.
use mathlib.Core.Path.{◌≡◌, refl, sym, ◌∙◌}
use mathlib.Core.List.{List, ◌∷◌}
use Prim.Native.Nat.{ℕ}
use native.Mathlib.Omega.{arith}
use Rattle.model.specs.Places.{along}
use Rattle.model.specs.Graph.{Graph, Edge, WellFormed}
use Rattle.model.specs.Cycle.{Walk, one, step, Acyclic}
use Rattle.model.specs.Path.{ToSink, end, link, Complete, complete, Greatest}
use Rattle.model.specs.Gain.{with_wcet}
use Rattle.model.specs.Summary.{FromSource, begin, onward, EndingAt, StartingAt}
use Rattle.model.proofs.Cycles.{walk_join, walk_within}
use Rattle.model.proofs.Joined.{along-last}

pub record Alike (G H : Graph) : Type 0 where
  pub vertices : G.n ≡ H.n
  pub edges : (u v : ℕ) → G.edge u v ≡ H.edge u v

pub alike_back : {G H : Graph} → Alike G H → Alike H G
alike_back S = record { vertices = sym S.vertices; edges = λ u v. sym (S.edges u v) }

module _ {G H : Graph} (S : Alike G H) where
  edge-there : (u v : ℕ) → Edge G u v → Edge H u v
  edge-there u v e = sym (S.edges u v) ∙ e

  edge_here : (u v : ℕ) → Edge H u v → Edge G u v
  edge_here u v e = S.edges u v ∙ e

  pub to-sink_alike : {p : List ℕ} → ToSink G p → ToSink H p
  to-sink_alike (end {v = v} l s) = end (rw S.vertices at l) (λ u e. s u (edge_here v u e))
  to-sink_alike (link {u = u} {v = v} e c) = link (edge-there u v e) (to-sink_alike c)

  pub complete_alike : {p : List ℕ} → Complete G p → Complete H p
  complete_alike (complete {u = v} s c) = complete (λ u e. s u (edge_here u v e)) (to-sink_alike c)

  pub walk_alike : {u v : ℕ} → Walk G u v → Walk H u v
  walk_alike = walk_within edge-there

pub greatest_alike : {G H : Graph} → Alike G H → {value : List ℕ → ℕ} {x : ℕ} → Greatest G value x → Greatest H value x
greatest_alike S r = record {
  path = r.path;
  is_complete = complete_alike S r.is_complete;
  attained = r.attained;
  unexceeded = λ p c. r.unexceeded p (complete_alike (alike_back S) c);
}

-- ---- one WCET changed

pub wcet_alike : (G : Graph) (v x : ℕ) → Alike G (with_wcet G v x)
unfolding with_wcet
wcet_alike G v x = record { vertices = refl; edges = λ a b. refl }

pub wcet_well_formed : {G : Graph} → WellFormed G → (v x : ℕ) → WellFormed (with_wcet G v x)
unfolding with_wcet
wcet_well_formed W v x = record {
  some = W.some;
  from = W.from;
  to = W.to;
  kind_known = W.kind_known;
  some_core = W.some_core;
  few_cores = W.few_cores;
}

pub wcet-acyclic : {G : Graph} → Acyclic G → (v x : ℕ) → Acyclic (with_wcet G v x)
wcet-acyclic {G} A v x u w = A u (walk_alike (alike_back (wcet_alike G v x)) w)

-- ---- one weight changed

-- weights that agree but at v
abbrev pub AgreeBut : ℕ → (ℕ → ℕ) → (ℕ → ℕ) → Type 0
AgreeBut v f g = (u : ℕ) → (u ≡ v → ⊥) → f u ≡ g u

module _ {G : Graph} (v : ℕ) (f g : ℕ → ℕ) (same : AgreeBut v f g) where
  until-same : {p : List ℕ} {u : ℕ} → FromSource G p u → (u ≡ v → ⊥) → (Walk G v u → ⊥) → along f p ≡ along g p
  unfolding along
  until-same {u = u} (begin l s) d x = omega (arith, same u d)
  until-same {u = u} (onward {u = w} {p = p} c e) d x =
      omega (
        arith,
        same u d,
        along-last f p u,
        along-last g p u,
        until-same c (λ q. x (one (rw q at e))) (λ y. x (walk_join y (one e))),
      )

  since-same : {q : List ℕ} {u : ℕ} → ToSink G (u ∷ q) → (u ≡ v → ⊥) → (Walk G u v → ⊥) → along f (u ∷ q) ≡ along g (u ∷ q)
  unfolding along
  since-same {u = u} (end l s) d x = omega (arith, same u d)
  since-same {u = u} (link {v = w} e t) d x = omega (arith, same u d, since-same t (λ q. x (one (rw q at e))) (λ y. x (step e y)))

  -- THEOREM. The sums that end at u are the same where v is not u and does not reach it.
  pub ending-kept : {u x : ℕ} → (u ≡ v → ⊥) → (Walk G v u → ⊥) → EndingAt G f u x → EndingAt G g u x
  ending-kept d w a = record {
    path = a.path;
    from_source = a.from_source;
    attained = sym (until-same a.from_source d w) ∙ a.attained;
    unexceeded = λ p c. omega (arith, until-same c d w, a.unexceeded p c);
  }

  -- THEOREM. The sums that start at u are the same where u is not v and does not reach it.
  pub starting-kept : {u x : ℕ} → (u ≡ v → ⊥) → (Walk G u v → ⊥) → StartingAt G f u x → StartingAt G g u x
  starting-kept d w a = record {
    rest = a.rest;
    to_sink = a.to_sink;
    attained = sym (since-same a.to_sink d w) ∙ a.attained;
    unexceeded = λ p c. omega (arith, since-same c d w, a.unexceeded p c);
  }
