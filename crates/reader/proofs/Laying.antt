-- From the counts and the tables that were filled to the lists of the file's graph, and from them to what the reader hands back.
use Rattle.std.specs.Prelude.{Result, Ok, Err, replicate}
use mathlib.Core.Path.{◌≡◌, refl, sym, ap, ◌∙◌, subst}
use mathlib.Core.Bool.{Bool, true, false}
use mathlib.Core.List.{List}
use Prim.Native.Nat.{ℕ, ◌+◌, ◌≤◌, ◌<◌}
use native.Mathlib.Omega.{arith}
use lib.ListN.{get_or}
use Rattle.model.specs.Places.{table, padded}
use Rattle.graph.specs.File.{records, many, column, words, keys, graph_of, no_graph_of}
use Rattle.model.specs.Cycle.{cyclic}
use Rattle.graph.specs.Model.{AcceptedGraph, as_model}
use Rattle.graph.specs.Rules.{rule1}
use Rattle.graph.specs.Answer.{Answer, Accepted, Refused, answered, at_0, Taken, taken}
use Rattle.graph.specs.Judge.{judge_from, read_of}
use Rattle.graph.specs.declared.Graph.{Graph}
use Rattle.graph.specs.declared.Refusal.{Refusal}
use Rattle.graph.proofs.Judging.{judge-first, judge-second, none-holds, all_fit}
use Rattle.graph.proofs.Accepted.{taken as sound, few_kinds, few_vertices, few_edges}
use Rattle.records.specs.Passing.{Counted}
use Rattle.records.specs.declared.Counts.{Counts}
use Rattle.starts.specs.Starts.{start_in, Rows, Ordered}
use Rattle.cycle.specs.Drawn.{drawn as drawn_by}
use Rattle.cycle.proofs.Drawn.{drawn-cyclic}
use Rattle.reader.specs.Steps.{Quiet, Faultless, Found, Listed, Drawn, Tested, Edged}
use Rattle.sets.specs.Sets.{Holds}
use Rattle.rows.specs.Rows.{predecessor, Kin}
use Rattle.rows.specs.Gathered.{Lined}
use Rattle.reader.specs.Laid.{LaidOut, TakenInto, RowsInto, KinInto, Usable}
use Rattle.reader.specs.declared.Laid.{Laid}
use Rattle.reader.proofs.Taking.{not-both, quiet-found, rows}

-- ---- the edges

module _ (s : List ℕ) (c : Counts) (F : Faultless s c) where
  -- the records that are listed are there
  pub within : ((i : ℕ) → get_or s i 0 < 256) → (c.kinds ≤ 10) × (c.n ≤ 128) × (c.edges ≤ 1024) × (c.kinds + c.n + c.edges ≤ records s)
  within bytes =
      let n = F.counted in (
        omega (arith, n.all_kinds, few_kinds s bytes F.quiet),
        omega (arith, n.all_vertices, few_vertices s bytes F.quiet),
        omega (arith, n.all_edges, few_edges s bytes F.quiet),
        omega (arith, n.all_kinds, n.all_vertices, n.all_edges, all_fit s),
      )

  pub listed : (e st : List ℕ) → e ≡ padded 1024 (keys s (c.kinds + c.n)) c.edges → st ≡ table (start_in e c.edges) 129 → Listed s e st
  unfolding graph_of
  listed e st p q =
      let n = F.counted in
      let x : e ≡ padded 1024 (keys s (many s 0 + many s 1)) (many s 2) = p ∙ rw (n.all_kinds, n.all_vertices, n.all_edges) refl in
      record { edge = x; starts = q ∙ rw (x, n.all_edges) refl }

  pub laid-rows : ((i : ℕ) → get_or s i 0 < 256) → (e st : List ℕ) → Listed s e st → Rows e c.edges c.n st
  laid-rows bytes e st L =
      let n = F.counted in
      rw (L.edge, L.starts, n.all_vertices, n.all_edges) (rows s bytes F.quiet)

  pub drawn : (l : Laid) → Listed s l.graph.edge l.starts → Holds l.pred (predecessor l.graph.edge c.edges)
      → l.graph.cores ≡ replicate 10 0 → l.graph.kind ≡ replicate 128 0 → l.graph.wcet ≡ replicate 128 0 → Drawn s l
  drawn l L w x y z = record { listed = L; rows = rw (L.edge, F.counted.all_edges) at w; cores_zero = x; kind_zero = y; wcet_zero = z }

  pub tested : (r : Bool) (l : Laid) → Drawn s l → r ≡ cyclic (as_model (drawn_by l.graph.edge c.n c.edges)) → (r ≡ false → Ordered l.graph.edge c.edges c.n l.order)
      → Tested s r l
  unfolding graph_of
  tested r l D p q =
      let n = F.counted in
      record {
        cycle = p ∙ rw (D.listed.edge, n.all_vertices, n.all_edges) (drawn-cyclic (graph_of s));
        drawn = D;
        order = λ z. rw (D.listed.edge, n.all_vertices, n.all_edges) at (q z);
      }

-- ---- the answer

-- where none of the numbers up to 10 is found, none holds
pub faultless : {s : List ℕ} {r : Result Counts Refusal} (c : Counts) → Found s r → r ≡ Ok c → Faultless s c
faultless {s} c f e = record { counted = f.counted c e; quiet = quiet-found s (sym f.answer ∙ ap answered e) }

-- ---- the whole graph

accepted-graph : (s : List ℕ) → rule1 s ≡ false → judge_from 2 s ≡ Accepted → read_of s ≡ record { answer = Accepted; graph = graph_of s }
unfolding read_of
accepted-graph s f p = rw (judge-second s f ∙ p) refl

-- a refusal leaves open what stands in the lists
module _ {s : List ℕ} {l : Laid} where
  pub taken_refused : {x : Refusal} → (read_of s).answer ≡ Refused x → TakenInto s (Refused x) l
  taken_refused q = record { answer = sym q; laid = λ a. absurd (not-both a q) }

  pub taken-first : rule1 s ≡ true → TakenInto s (Refused (at_0 1)) l
  unfolding read_of
  taken-first t = taken_refused (judge-first s t)

  pub taken_not : {x : Refusal} → rule1 s ≡ false → judge_from 2 s ≡ Refused x → TakenInto s (Refused x) l
  unfolding read_of
  taken_not f q = taken_refused (judge-second s f ∙ q)

pub fit_lists : (s : List ℕ) (c : Counts) → ((i : ℕ) → get_or s i 0 < 256) → judge_from 2 s ≡ Accepted → Counted s c
    → (c.kinds ≤ 10) × (c.n ≤ 128) × (c.kinds + c.n ≤ records s)
fit_lists s c bytes p n =
    let q : Quiet s = λ num f l. none-holds 2 s p num f (omega arith) in
    (omega (arith, n.all_kinds, few_kinds s bytes q), omega (arith, n.all_vertices, few_vertices s bytes q), omega (arith, n.all_kinds, n.all_vertices, all_fit s))

-- the counts and the lists are the graph's
pub laid : (s : List ℕ) (c : Counts) (e : Laid) (cs ks ws : List ℕ) → rule1 s ≡ false → judge_from 2 s ≡ Accepted → Edged s c e
    → cs ≡ padded 10 (column s 0 2) c.kinds → ks ≡ padded 128 (column s c.kinds 2) c.n → ws ≡ padded 128 (words s c.kinds) c.n
    → TakenInto s Accepted
    (record { graph = record { kinds = c.kinds; n = c.n; edges = c.edges; cores = cs; kind = ks; wcet = ws; edge = e.graph.edge }; starts = e.starts; order = e.order; pred = e.pred })
unfolding graph_of
laid s c e cs ks ws f p E x y z =
    let r = accepted-graph s f p in
    let n = E.counted in
    let D = E.drawn in
    record {
      answer = sym (ap (λ (t : Taken). t.answer) r);
      laid = λ q. rw r (record {
        graph = rw (x, y, z, D.listed.edge, n.all_kinds, n.all_vertices, n.all_edges) refl;
        along = record { starts = D.listed.starts; order = E.order };
        rows = D.rows;
      });
    }

-- ---- the rows

pub rows-into : {s : List ℕ} {r : Answer} {l : Laid} → TakenInto s r l → RowsInto s l.pred
rows-into T q = (T.laid q).rows

-- along the order that is handed back the ancestors can be found
pub lined : (s : List ℕ) (l : Laid) {r : Answer} → TakenInto s r l → ((i : ℕ) → get_or s i 0 < 256) → (read_of s).answer ≡ Accepted
    → Lined (read_of s).graph l.order l.graph.n l.pred
lined s l T bytes p =
    let L = T.laid p in
    record { accepted = sound s bytes p; order = L.along.order; vertices = ap (λ (g : Graph). g.n) L.graph; predecessors = L.rows }

pub kin_not : (s : List ℕ) {t a : List (List ℕ)} {x : Refusal} → (read_of s).answer ≡ Refused x → KinInto s t a
kin_not s p q = absurd (not-both q p)

pub kin_given : {s : List ℕ} {l : Laid} {t a : List (List ℕ)} → TakenInto s Accepted l → KinInto s t a → Kin l.graph t a
kin_given T K = let q = sym T.answer in rw (T.laid q).graph (K q)

-- the graph as one value
pub handed_over : (s : List ℕ) (l : Laid) → TakenInto s Accepted l → taken (Ok l.graph) ≡ read_of s
handed_over s l T =
    let p : (read_of s).answer ≡ Accepted = sym T.answer in
    rw ((T.laid p).graph, ← p) refl

pub usable : {s : List ℕ} {l : Laid} → TakenInto s Accepted l → ((i : ℕ) → get_or s i 0 < 256) → Usable l
usable {s} T bytes =
    let p : (read_of s).answer ≡ Accepted = sym T.answer in
    let L = T.laid p in
    record { accepted = rw L.graph (sound s bytes p); along = rw L.graph L.along; rows = rw L.graph L.rows }

pub handed_back : (s : List ℕ) {l : Laid} {x : Refusal} → TakenInto s (Refused x) l → taken (Err x) ≡ read_of s
unfolding read_of
handed_back s T = let p = sym T.answer in rw p refl

pub read-accepted : (s : List ℕ) {r : Result Graph Refusal} {g : Graph} → taken r ≡ read_of s → ((i : ℕ) → get_or s i 0 < 256) → r ≡ Ok g → AcceptedGraph g
read-accepted s e bytes p =
    let t : read_of s ≡ record { answer = Accepted; graph = _ } = sym e ∙ ap taken p in
    rw (ap (λ (x : Taken). x.graph) t) at (sound s bytes (ap (λ (x : Taken). x.answer) t))
