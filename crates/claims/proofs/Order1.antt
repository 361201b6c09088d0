-- Order 1, "What a rewrite would gain": "list for each vertex the gain: NEW-B-1 less NEW-B-1 of the same graph with that vertex's WCET set to 0".
--
-- Said over the contracts of the entries `gains` and `gains_altered` (specs/Entries). `GainOf G v x` names both bounds: NEW-B-1 of G, and NEW-B-1
-- of `with_wcet G v 0`, which with x is the first.
use mathlib.Core.Path.{◌≡◌, refl, sym, ap, ◌∙◌}
use mathlib.Core.Logic.{◌↔◌}
use mathlib.Core.List.{List, ◌++◌}
use Prim.Native.Nat.{ℕ, ◌+◌, ◌*◌, ◌≤◌, ◌<◌}
use native.Mathlib.Omega.{arith}
use lib.ListN.{length, get_or, drop, length-append, length-drop, get_or-append}
use Rattle.model.specs.Graph.{Graph}
use Rattle.model.specs.Bounds.{PARTS}
use Rattle.model.specs.Gain.{with_wcet, GainOf}
use Rattle.model.specs.Ranking.{Ranking}
use Rattle.model.proofs.Gains.{gain-most}
use Rattle.model.proofs.Rankings.{ranking_unique}
use Rattle.model.proofs.Alike.{wcet_well_formed, wcet-acyclic}
use Rattle.graph.specs.Model.{as_model}
use Rattle.graph.specs.Judge.{read_of}
use Rattle.graph.specs.declared.Refusal.{Refusal}
use Rattle.graph.specs.Answer.{Taken}
use Rattle.graph.specs.Answer.{Accepted, Refused}
use Rattle.graph.proofs.Accepted as reader
use Rattle.gains.specs.Answers.{GainedIn, narrow, found, GainsOf, refused, accepted, AlteredIn, no_vertex, too_long, altered, AlteredOf}
use Rattle.gains.specs.Gained.{Gained}
use Rattle.gains.specs.Gained.{Vertices, Refused as NoGains}
use Rattle.gains.proofs.Unique.{gains-of_unique, altered-of_unique}
use Rattle.summary.specs.declared.Summary.{Summary}
use Rattle.summary.proofs.Unique.{tables_unique}
use Rattle.codes.specs.Coded.{coded_gains_of}
use Rattle.codes.specs.declared.PlannerCount.{PlannerCount}
use Rattle.claims.specs.Claims.{Bytes, IsAccepted, graph_in, at_0, GainsLent}
use Rattle.claims.specs.Entries.{ReadGives, GainsGives, AlteredGives, AfreshGives, RenewedGives, RankingGives, PlannerGainsGives, PlannerAlteredGives}
use Rattle.claims.proofs.Lent.{kept-past}
use Rattle.claims.proofs.Entries.{read-given, gains-given, altered-given, planner_gains-given, planner_altered-given}

-- ---- the gains

gains-lent : {G : Graph} {old new : List ℕ} {n : ℕ} → GainedIn G old (Vertices n) new → GainsLent G old new n
gains-lent {G} {old} (found l room size gain) = record {
  many = refl;
  gain = λ v k. rw (get_or-append l (drop G.n old) 0 v (omega (arith, size))) (gain v k);
  as_long = omega (arith, length-append l (drop G.n old), length-drop G.n old, size);
  kept = kept-past l old size;
}

-- THEOREM. Where `gains` answers with so many vertices, the lent list has the gain of each, and is otherwise as it was.
pub gains-are : {s old new : List ℕ} {n : ℕ} → GainsGives s old (Vertices n) new → GainsLent (graph_in s) old new n
gains-are {s} {old} h = go (gains-given h)
  where
    go : {new : List ℕ} {n : ℕ} → GainsOf s old (Vertices n) new → GainsLent (graph_in s) old new n
    go (accepted ok g) = gains-lent g

-- THEOREM. With one WCET altered they are the gains of the altered graph: both bounds are taken there. The graph has the vertex, and the WCET is
-- within its limit.
pub altered-are : {s old new : List ℕ} {v x n : ℕ} → AlteredGives s v x old (Vertices n) new
    → (v < n) × (x ≤ 1000000) × GainsLent (with_wcet (graph_in s) v x) old new n
unfolding as_model with_wcet
altered-are {s} {old} {v = v} {x = x} h = go (altered-given h)
  where
    in_graph : {n : ℕ} {new : List ℕ} → AlteredIn (read_of s).graph v x old (Vertices n) new
        → (v < n) × (x ≤ 1000000) × GainsLent (with_wcet (graph_in s) v x) old new n
    in_graph (altered k m g) = let L = gains-lent g in (omega (arith, L.many), m, L)

    go : {new : List ℕ} {n : ℕ} → AlteredOf s v x old (Vertices n) new → (v < n) × (x ≤ 1000000) × GainsLent (with_wcet (graph_in s) v x) old new n
    go (accepted ok g) = in_graph g

-- THEOREM. A gain is never more than the vertex's WCET in parts, and so it is with the altered one.
module _ {s : List ℕ} {t : Taken} (bytes : Bytes s) (R : ReadGives s t) (ok : t.answer ≡ Accepted) where
  is_accepted : IsAccepted s
  is_accepted = sym (ap (λ (t : Taken). t.answer) (read-given R)) ∙ ok

  pub gain-at-most : {old new : List ℕ} {n : ℕ} → GainsGives s old (Vertices n) new → (v : ℕ) → v < n → get_or new v 0 ≤ (graph_in s).wcet v * PARTS
  gain-at-most h v l =
      let A = reader.taken s bytes is_accepted in
      let L = gains-are h in
      gain-most A.well_formed A.acyclic (omega (arith, L.many)) (L.gain v l)

  pub altered-at-most : {old new : List ℕ} {v x n : ℕ} → AlteredGives s v x old (Vertices n) new → (u : ℕ) → u < n
      → get_or new u 0 ≤ (with_wcet (graph_in s) v x).wcet u * PARTS
  altered-at-most {v = v} {x = x} h u l =
      let A = reader.taken s bytes is_accepted in
      let L = (altered-are h).2 in
      gain-most (wcet_well_formed A.well_formed v x) (wcet-acyclic A.acyclic v x) (omega (arith, L.many)) (L.gain u l)

-- ---- the summary and the ranking

-- THEOREM. The summary that is brought up to date for one altered weight is the one that is made afresh of the altered weights: wherever either
-- function may be called, for the same lists, what they hand back is the same.
pub summary_kept : {e st o w : List ℕ} {n v : ℕ} {old r r' : Summary} → RenewedGives e st o n w old v r → AfreshGives e st o n w r' → r ≡ r'
summary_kept h k =
    let i = h.as_seen in
    let j = k.as_seen in
    let g = h.ensured.0.0 in
    let A = h.ensured.0.1 in
    let W = rw (i.0, i.1, i.2, i.3, i.4, ← j.0, ← j.1, ← j.2, ← j.3, ← j.4) at A.weighed in
    tables_unique (rw (i.7, i.4) at (h.ensured.1 g A)) (rw (j.5, j.4) at (k.ensured.1 g W))

-- THEOREM. The sheet's sixth line: all vertices, largest gain first, lower number first among equals. There is one such list.
pub ranking-is : {gain l : List ℕ} {n : ℕ} → RankingGives gain n l → Ranking n (λ v. get_or gain v 0) l
ranking-is h = let i = h.as_seen in rw (← i.0, ← i.1, ← i.2) h.ensured.1.ranking

pub one-ranking : {gain l m : List ℕ} {n : ℕ} → RankingGives gain n l → Ranking n (λ v. get_or gain v 0) m → (i : ℕ) → i < n → get_or l i 0 ≡ get_or m i 0
one-ranking {gain} h m = ranking_unique (λ v. get_or gain v 0) (ranking-is h) m

-- ---- the refusals: first the reader's

module _ {s : List ℕ} {t : Taken} (R : ReadGives s t) {y : Refusal} (no : t.answer ≡ Refused y) where
  refused-file : (read_of s).answer ≡ Refused y
  refused-file = sym (ap (λ (t : Taken). t.answer) (read-given R)) ∙ no

  -- THEOREM. Of a file that the reader refuses, both say no as the reader does, and leave the list as it was.
  pub gains-first : {old new : List ℕ} {g : Gained} → GainsGives s old g new → (g ≡ NoGains y) × (new ≡ old)
  gains-first h = gains-of_unique (gains-given h) (refused refused-file)

  pub altered-first : {v x : ℕ} {old new : List ℕ} {g : Gained} → AlteredGives s v x old g new → (g ≡ NoGains y) × (new ≡ old)
  altered-first h = altered-of_unique (altered-given h) (refused refused-file)

-- ---- then, of an accepted file

module _ {s : List ℕ} {t : Taken} (R : ReadGives s t) (ok : t.answer ≡ Accepted) where
  taken-file : (read_of s).answer ≡ Accepted
  taken-file = sym (ap (λ (t : Taken). t.answer) (read-given R)) ∙ ok

  graph-of : t.graph ≡ (read_of s).graph
  graph-of = ap (λ (t : Taken). t.graph) (read-given R)

  as_many : t.graph.n ≡ (graph_in s).n
  unfolding as_model
  as_many = ap (λ (g : Taken). g.graph.n) (read-given R)

  -- THEOREM. 15 for fewer than N places, and a refusal leaves the list as it was.
  pub gains_15 : {old new : List ℕ} {g : Gained} → GainsGives s old g new → length old < t.graph.n → (g ≡ NoGains (at_0 15)) × (new ≡ old)
  gains_15 h l = gains-of_unique (gains-given h) (accepted taken-file (narrow (omega (arith, as_many, l))))

  -- THEOREM. An altered vertex that the graph doesn't have gives 7 at 0, whatever the WCET and the list are.
  pub no_such_vertex : {v x : ℕ} {old new : List ℕ} {g : Gained} → AlteredGives s v x old g new → t.graph.n ≤ v → (g ≡ NoGains (at_0 7)) × (new ≡ old)
  no_such_vertex h l = altered-of_unique (altered-given h) (accepted taken-file (no_vertex (rw graph-of at l)))

  -- THEOREM. An altered WCET above the limit gives 7 at the vertex's record, K + v, whatever the list is.
  pub wcet_too_long : {v x : ℕ} {old new : List ℕ} {g : Gained} → AlteredGives s v x old g new → v < t.graph.n → 1000000 < x
      → (g ≡ NoGains (record { number = 7; place = t.graph.kinds + v })) × (new ≡ old)
  wcet_too_long h l m = rw graph-of (altered-of_unique (altered-given h) (accepted taken-file (too_long (rw graph-of at l) m)))

  -- THEOREM. Then 15 for fewer than N places.
  pub altered_15 : {v x : ℕ} {old new : List ℕ} {g : Gained} → AlteredGives s v x old g new → v < t.graph.n → x ≤ 1000000 → length old < t.graph.n
      → (g ≡ NoGains (at_0 15)) × (new ≡ old)
  unfolding with_wcet
  altered_15 h l m k = altered-of_unique (altered-given h) (accepted taken-file (altered (rw graph-of at l) m (narrow (omega (arith, as_many, k)))))

  -- THEOREM. Where there is room, neither says no.
  pub gains-given-all : {old new : List ℕ} {g : Gained} → GainsGives s old g new → t.graph.n ≤ length old → g ≡ Vertices t.graph.n
  gains-given-all {old} h l = go (gains-given h)
    where
      in_graph : {g : Gained} {new : List ℕ} → GainedIn (graph_in s) old g new → g ≡ Vertices t.graph.n
      in_graph (narrow k) = absurd (omega (arith, as_many))
      in_graph (found p k m n) = rw as_many refl

      go : {g : Gained} {new : List ℕ} → GainsOf s old g new → g ≡ Vertices t.graph.n
      go (refused e) = absurd (let q = taken-file in let z : ◌≡◌ {A = ℕ} 0 1 = cc in omega arith)
      go (accepted e g) = in_graph g

  pub altered-given-all : {v x : ℕ} {old new : List ℕ} {g : Gained} → AlteredGives s v x old g new → v < t.graph.n → x ≤ 1000000 → t.graph.n ≤ length old
      → g ≡ Vertices t.graph.n
  unfolding with_wcet
  altered-given-all {v} {x} {old} h l m k = go (altered-given h)
    where
      in-lists : {g : Gained} {new : List ℕ} → GainedIn (with_wcet (graph_in s) v x) old g new → g ≡ Vertices t.graph.n
      in-lists (narrow j) = absurd (omega (arith, as_many))
      in-lists (found p j q i) = rw as_many refl

      in_graph : {g : Gained} {new : List ℕ} → AlteredIn (read_of s).graph v x old g new → g ≡ Vertices t.graph.n
      in_graph (no_vertex j) = absurd (omega (arith, ap (λ (g : Taken). g.graph.n) (read-given R)))
      in_graph (too_long j q) = absurd (omega arith)
      in_graph (altered j q g) = in-lists g

      go : {g : Gained} {new : List ℕ} → AlteredOf s v x old g new → g ≡ Vertices t.graph.n
      go (refused e) = absurd (let q = taken-file in let z : ◌≡◌ {A = ℕ} 0 1 = cc in omega arith)
      go (accepted e g) = in_graph g

-- ---- for C and Rust

-- THEOREM. The entries for C give what these give, in numbers, and leave in the list what these leave there.
pub planner_gains-is : {s old new new' : List ℕ} {r : PlannerCount} {g : Gained} → PlannerGainsGives s old r new → GainsGives s old g new'
    → (r ≡ coded_gains_of g) × (new ≡ new')
planner_gains-is q h =
    let c = planner_gains-given q in
    let u = gains-of_unique c.of (gains-given h) in
    (c.coded ∙ ap coded_gains_of u.0, u.1)

pub planner_altered-is : {s old new new' : List ℕ} {v x : ℕ} {r : PlannerCount} {g : Gained} → PlannerAlteredGives s v x old r new → AlteredGives s v x old g new'
    → (r ≡ coded_gains_of g) × (new ≡ new')
planner_altered-is q h =
    let c = planner_altered-given q in
    let u = altered-of_unique c.of (altered-given h) in
    (c.coded ∙ ap coded_gains_of u.0, u.1)
