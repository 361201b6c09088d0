-- Order 2, "Unused cores in OLD-B": "Document 01 takes Mmax over all declared types. Take it over the types that at least one vertex has; a
-- vertex with WCET 0 counts. NEW-B-1 stays as it is, and demands 2 and 3 now read with this lower OLD-B."
--
-- Document 01's OLD-B is stated in this file alone, for comparison. Demand 2 says that `bounds` gives `OldB` and `NewB1`; demand 3's words
-- for OLD-B are here. Cases A to F and the order's own example are rows of the worked table (Worked). No refusal changes: demand 1 stands as
-- it stood.
--
--   Mmax G m           m is the largest core number among the types that at least one vertex has
--   EveryTypeUsed G    every declared type has a vertex
--   DeclaredOldB G B   B is OLD-B as document 01 has it
--   SameUse G H        the same vertices, WCETs and edges, and as many cores for each vertex; whatever else is declared
use mathlib.Core.Path.{◌≡◌, sym, ap, ◌∙◌}
use mathlib.Core.List.{List}
use mathlib.Core.Logic.{◌⊎◌, inl, inr}
use Prim.Native.Nat.{ℕ, ◌+◌, ◌-◌, ◌*◌, ◌/◌, ◌≤◌, ◌<◌}
use native.Mathlib.Nat.{mul-le-mul_right}
use native.Mathlib.Omega.{arith}
use Rattle.model.specs.Places.{largest, along}
use Rattle.model.specs.Graph.{Graph, WellFormed}
use Rattle.model.specs.Path.{Greatest}
use Rattle.model.specs.Bounds.{PARTS, volume, most_cores_of, OldB}
use Rattle.model.specs.Schedule.{Schedule, Times, WorkConserving, EndsBy}
use Rattle.model.proofs.Sums.{largest-most, largest-is}
use Rattle.model.proofs.Shares.{share_falls}
use Rattle.model.proofs.Longest.{greatest_unique, old_b_unique, new_b_1_unique}
use Rattle.model.proofs.Compare.{most-cores, some-cores, most-cores-of}
use Rattle.model.proofs.Alike.{Alike}
use Rattle.model.proofs.Demand3.{demand_3_old}
use Rattle.graph.specs.Model.{AcceptedGraph}
use Rattle.graph.specs.Judge.{read_of}
use Rattle.graph.specs.Answer.{Accepted}
use Rattle.graph.proofs.Accepted as reader
use Rattle.bounds.specs.Answers.{Figures}
use Rattle.bounds.specs.Bounded.{Bounded}
use Rattle.bounds.proofs.Unused.{old_b_same, new_b_1_same}
use Rattle.claims.specs.Claims.{Bytes, graph_in}
use Rattle.claims.specs.Entries.{BoundsGives}
use Rattle.claims.proofs.Entries.{bounds-given}
use Rattle.claims.proofs.Demand2.{bounds-are}

-- whatever the WCETs of the vertices
pub record Mmax (G : Graph) (m : ℕ) : Type 0 where
  pub unexceeded : (v : ℕ) → v < G.n → G.cores (G.kind v) ≤ m
  pub vertex : ℕ
  pub known : vertex < G.n
  pub attained : G.cores (G.kind vertex) ≡ m

abbrev pub EveryTypeUsed : Graph → Type 0
EveryTypeUsed G = (s : ℕ) → s < G.kinds → (v : ℕ) × (v < G.n) × (G.kind v ≡ s)

pub record DeclaredOldB (G : Graph) (B : ℕ) : Type 0 where
  pub len : ℕ
  pub longest : Greatest G (along G.wcet) len
  pub is : B ≡ (PARTS - PARTS / largest G.cores G.kinds) * len + volume G

pub record SameUse (G H : Graph) : Type 0 where
  pub vertices : G.n ≡ H.n
  pub edges : (u v : ℕ) → G.edge u v ≡ H.edge u v
  pub wcets : (v : ℕ) → v < G.n → G.wcet v ≡ H.wcet v
  pub cores : (v : ℕ) → v < G.n → G.cores (G.kind v) ≡ H.cores (H.kind v)

-- ---- of any graph

module _ {G : Graph} (W : WellFormed G) where
  -- Mmax is a declared type's, and where every type has a vertex none has more
  below : most_cores_of G ≤ largest G.cores G.kinds
  below = let r = most-cores-of W in omega (arith, r.2, largest-most G.cores G.kinds (G.kind r.0) (W.kind_known r.0 r.1))

  above : EveryTypeUsed G → largest G.cores G.kinds ≤ most_cores_of G
  above every = go (largest-is G.cores G.kinds)
    where
      go : (largest G.cores G.kinds ≡ 0) ⊎ ((s : ℕ) × (s < G.kinds) × (largest G.cores G.kinds ≡ G.cores s))
          → largest G.cores G.kinds ≤ most_cores_of G
      go (inl z) = omega arith
      go (inr r) = let u = every r.0 r.1 in omega (arith, r.2, ap G.cores u.2, most-cores W u.0 u.1)

  old_below : {B B' : ℕ} → OldB G B → DeclaredOldB G B' → B ≤ B'
  old_below a b =
      let share = share_falls PARTS (most_cores_of G) (largest G.cores G.kinds) (some-cores W) below in
      let toll : PARTS - PARTS / most_cores_of G ≤ PARTS - PARTS / largest G.cores G.kinds = omega arith in
      let e = ap (λ (x : ℕ). (PARTS - PARTS / most_cores_of G) * x) (greatest_unique a.longest b.longest) in
      omega (arith, a.is, b.is, e, mul-le-mul_right b.len toll)

  old-same : EveryTypeUsed G → {B B' : ℕ} → OldB G B → DeclaredOldB G B' → B ≡ B'
  old-same every a b =
      let m : most_cores_of G ≡ largest G.cores G.kinds = omega (arith, below, above every) in
      let e = greatest_unique a.longest b.longest in
      a.is ∙ rw (m, e) (sym b.is)

-- ---- the promises

module _ {s : List ℕ} (bytes : Bytes s) {b : Bounded} (B : BoundsGives s b) (ok : b.answer ≡ Accepted) where
  graph : AcceptedGraph (read_of s).graph
  graph = reader.taken s bytes (sym (bounds-given B).answer ∙ ok)

  -- THEOREM. The Mmax in the OLD-B that `bounds` gives is that of the types that at least one vertex has; a vertex with WCET 0 counts.
  pub mmax_is : Mmax (graph_in s) (most_cores_of (graph_in s))
  mmax_is = let r = most-cores-of graph.well_formed in record {
    unexceeded = most-cores graph.well_formed;
    vertex = r.0;
    known = r.1;
    attained = sym r.2;
  }

  -- THEOREM. That OLD-B is at most document 01's, and equal where every declared type has a vertex.
  pub old-below_declared : {x : ℕ} → DeclaredOldB (graph_in s) x → b.old.0 ≤ x
  old-below_declared d = old_below graph.well_formed (bounds-are B ok).old d

  pub old-is_declared : {x : ℕ} → EveryTypeUsed (graph_in s) → DeclaredOldB (graph_in s) x → b.old.0 ≡ x
  old-is_declared every d = old-same graph.well_formed every (bounds-are B ok).old d

  -- THEOREM. Lower as it is, every work-conserving schedule with times up to the WCETs still ends by it.
  pub ends_by_old : (S : Schedule) → Times (graph_in s) S.time → WorkConserving (graph_in s) S → EndsBy (graph_in s) S b.old.0
  ends_by_old S e c = demand_3_old graph.well_formed graph.acyclic e c b.old.0 (bounds-are B ok).old

  -- THEOREM. Another file that declares other types beside those that its vertices have, and is otherwise the same, gets the same bounds.
  pub unused_count_for_nothing : {t : List ℕ} {c : Bounded} → Bytes t → BoundsGives t c → c.answer ≡ Accepted → SameUse (graph_in s) (graph_in t)
      → (b.old.0 ≡ c.old.0) × (b.new.0 ≡ c.new.0)
  unused_count_for_nothing {t} {c} bytes' C ok' S =
      let W = graph.well_formed in
      let X = (reader.taken t bytes' (sym (bounds-given C).answer ∙ ok')).well_formed in
      let A : Alike (graph_in s) (graph_in t) = record { vertices = S.vertices; edges = S.edges } in
      let f : Figures (graph_in s) b = bounds-are B ok in
      let g : Figures (graph_in t) c = bounds-are C ok' in (
        old_b_unique b.old.0 c.old.0 (old_b_same W X A S.wcets S.cores f.old) g.old,
        new_b_1_unique b.new.0 c.new.0 (new_b_1_same W X A S.wcets S.cores f.new) g.new,
      )
