-- From an accepted graph as it was laid to what the functions ask for, and the graph with one WCET stored.
use mathlib.Core.Path.{◌≡◌, refl, sym, ap, ◌∙◌, fun_ext}
use mathlib.Core.Bool.{Bool, true, false}
use mathlib.Core.List.{List}
use mathlib.Core.Logic.{◌⊎◌, inl, inr}
use Prim.Native.Nat.{ℕ, ◌*◌, ◌≤◌, ◌<◌}
use native.Mathlib.Omega.{arith}
use lib.Dec.{eqb}
use lib.ListN.{get_or, length, set}
use lib.Seq.{get_or-set_other}
use Rattle.model.specs.Places.{pick, padded}
use Rattle.model.specs.Bounds.{scaled}
use Rattle.model.specs.Gain.{with_wcet}
use Rattle.model.proofs.Bools.{le-or-lt}
use Rattle.model.proofs.Tables.{padded-length, padded-past}
use Rattle.model.proofs.Alike.{wcet_well_formed, wcet-acyclic}
use Rattle.graph.specs.Model.{AcceptedGraph, as_model, from, to, joins}
use Rattle.graph.specs.File.{many, words, graph_of}
use Rattle.graph.specs.Judge.{read_of}
use Rattle.graph.specs.Answer.{Accepted}
use Rattle.graph.specs.declared.Graph.{Graph}
use Rattle.graph.proofs.Accepted.{taken}
use Rattle.reader.specs.Laid.{TakenInto, Usable}
use Rattle.reader.specs.declared.Laid.{Laid}
use Rattle.model.proofs.Turns.{put-at}
use Rattle.weights.specs.Weight.{rate_of, weight_by, stages}
use Rattle.weights.specs.declared.Measure.TheVariants.{Scaled}
use Rattle.paths.specs.Ahead.{weigh, Weighed}
use Rattle.bounds.proofs.Weighing.{weighs, weighed_by, scaled-most}
use Rattle.summary.specs.Tables.{Tables, Altering}
use Rattle.gaining.specs.Gaining.{Gainable}
use Rattle.summary.specs.declared.Summary.{Summary}

-- the list of scaled weights
abbrev pub scaled_in : Graph → List ℕ
scaled_in g = padded 128 (weight_by Scaled (stages g.kind g.wcet g.cores g.kinds g.n)) g.n

module _ {l : Laid} (R : Usable l) {f : List ℕ} (is : f ≡ scaled_in l.graph) where
  -- THEOREM. What `afresh` asks for.
  pub usable_weighed : Weighed l.graph l.graph.edge l.starts l.order l.graph.n f
  usable_weighed = weighed_by R.accepted R.along Scaled 720720000000 (scaled-most R.accepted) (omega arith) is

  -- THEOREM. What `gains` asks for, where r is the summary.
  pub usable_gainable : {r : Summary} → Tables (as_model l.graph) f r → Gainable l.graph l.graph.edge l.starts l.order l.graph.n f l.graph.wcet r
  unfolding as_model weight_by scaled
  usable_gainable S = record {
    weighed = usable_weighed;
    scaled_weights = weighs (weight_by Scaled (stages l.graph.kind l.graph.wcet l.graph.cores l.graph.kinds l.graph.n)) l.graph.n is;
    wcets = refl;
    summed = S;
  }

-- ---- one WCET stored

beside : (s : List ℕ) → (read_of s).answer ≡ Accepted → (read_of s).graph ≡ graph_of s
unfolding read_of
beside s r = rw r refl

-- the list of WCETs that the reader filled has 128 places
pub taken-long : {s : List ℕ} → ((i : ℕ) → get_or s i 0 < 256) → {l : Laid} → TakenInto s Accepted l → length l.graph.wcet ≡ 128
unfolding graph_of
taken-long {s} bytes T =
    let r : (read_of s).answer ≡ Accepted = sym T.answer in
    let q = beside s r in
    ap (λ (g : Graph). length g.wcet) ((T.laid r).graph ∙ q)
    ∙ padded-length 128 (words s (many s 0)) (many s 1) (rw (ap (λ (g : Graph). g.n) q) at (taken s bytes r).few_vertices)

-- the same with other WCETs
abbrev pub on_wcets : Laid → List ℕ → Laid
on_wcets l w =
    record { graph = record { kinds = l.graph.kinds; n = l.graph.n; edges = l.graph.edges; cores = l.graph.cores; kind = l.graph.kind; wcet = w; edge = l.graph.edge }; starts = l.starts; order = l.order; pred = l.pred }

module _ {l : Laid} (R : Usable l) (v x : ℕ) (known : v < l.graph.n) (long : length l.graph.wcet ≡ 128) where
  at : (u : ℕ) → get_or (set l.graph.wcet v x) u 0 ≡ pick (eqb u v) x (get_or l.graph.wcet u 0)
  at u = put-at l.graph.wcet v x u (omega (arith, long, R.accepted.few_vertices))

  abbrev stored : Laid
  stored = on_wcets l (set l.graph.wcet v x)

  -- THEOREM. It is the graph with this WCET set.
  pub stored_model : as_model stored.graph ≡ with_wcet (as_model l.graph) v x
  unfolding as_model with_wcet joins from to
  stored_model =
      ap (λ (f : ℕ → ℕ). record {
        n = l.graph.n;
        kinds = l.graph.kinds;
        kind = λ u. get_or l.graph.kind u 0;
        cores = λ s. get_or l.graph.cores s 0;
        wcet = f;
        edge = (as_model l.graph).edge;
      }) (fun_ext at)

  module _ (low : x ≤ 1000000) where
    -- THEOREM. It is accepted again.
    pub stored_usable : Usable stored
    unfolding as_model joins from to
    stored_usable = record {
      accepted = record {
        few_kinds = A.few_kinds;
        some_vertex = A.some_vertex;
        few_vertices = A.few_vertices;
        few_edges = A.few_edges;
        well_formed = rw stored_model (wcet_well_formed A.well_formed v x);
        acyclic = rw stored_model (wcet-acyclic A.acyclic v x);
        short = λ u k. rw (at u) (short (eqb u v) (get_or l.graph.wcet u 0) (A.short u k));
        from_known = A.from_known;
        to_known = A.to_known;
        ascending = A.ascending;
        kind_past = A.kind_past;
        wcet_past = λ u k. get_or-set_other l.graph.wcet v u x 0 (λ q. omega arith) ∙ A.wcet_past u k;
      };
      along = record { starts = R.along.starts; order = R.along.order };
      rows = R.rows;
    }
      where
        A : AcceptedGraph l.graph
        A = R.accepted

        short : (b : Bool) (y : ℕ) → y ≤ 1000000 → pick b x y ≤ 1000000
        short true y k = low
        short false y k = k

    -- f are the scaled weights as they were
    module _ {f : List ℕ} (is : f ≡ scaled_in l.graph) where
      -- THEOREM. What `afresh` asks for, of the new graph and the weights as they were: so the summary as it was is one of the new graph too.
      pub stored_weighed : Weighed stored.graph l.graph.edge l.starts l.order l.graph.n f
      unfolding as_model
      stored_weighed =
          let W = usable_weighed R is in
          record {
            rows = record { accepted = stored_usable.accepted; edge = refl; starts = W.rows.starts };
            order = W.order;
            vertices = refl;
            light = W.light;
          }

      -- THEOREM. What `altered` asks for, where r is the summary as it was and f' are the new scaled weights.
      pub stored_altering : {f' : List ℕ} → f' ≡ scaled_in stored.graph → {r : Summary} → Tables (as_model stored.graph) f r
          → Altering stored.graph l.graph.edge l.starts l.order l.graph.n f' r v
      unfolding weight_by
      stored_altering {f'} new S = record {
        weighed = usable_weighed stored_usable new;
        vertex = known;
        old = f;
        summed = S;
        same = λ u d. same u d (le-or-lt l.graph.n u);
      }
        where
          same : (u : ℕ) → (u ≡ v → ⊥) → (l.graph.n ≤ u) ⊎ (u < l.graph.n) → weigh f u ≡ weigh f' u
          same u d (inl k) =
              ap (λ (y : List ℕ). get_or y u 0) is ∙ (padded-past 128 _ l.graph.n u k ∙ sym (ap (λ (y : List ℕ). get_or y u 0) new ∙ padded-past 128 _ l.graph.n u k))
          same u d (inr k) =
              weighs _ l.graph.n is u k
              ∙ (ap (λ (y : ℕ). y * rate_of Scaled (get_or l.graph.cores (get_or l.graph.kind u 0) 0)) (sym (get_or-set_other l.graph.wcet v u x 0 d)) ∙ sym (weighs _ l.graph.n new u k))
