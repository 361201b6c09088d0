-- Order 4, "The second bound": "Add NEW-B-2 of document 003, section 4."
--
-- Said over the contract of the entry `second` (specs/Entries). `EndsBy` is demand 3's.
use mathlib.Core.Path.{◌≡◌, sym, ap, ◌∙◌}
use mathlib.Core.Logic.{◌↔◌}
use mathlib.Core.List.{List}
use Prim.Native.Nat.{ℕ, ◌≤◌, ◌<◌}
use native.Mathlib.Omega.{arith}
use lib.ListN.{length}
use Rattle.model.specs.Schedule.{Schedule, Times, WorkConserving, EndsBy}
use Rattle.model.specs.Placing.{Placing, counted, NoneIdle}
use Rattle.model.specs.Second.{NewB2}
use Rattle.model.specs.PathCount.{path_count, AllPaths}
use Rattle.model.proofs.Cores.{counted_works}
use Rattle.model.proofs.Demand3.{demand_3_second}
use Rattle.model.proofs.Values.{second-le-new}
use Rattle.model.proofs.Counted as model
use Rattle.graph.specs.Judge.{read_of}
use Rattle.graph.specs.declared.Refusal.{Refusal}
use Rattle.graph.specs.Answer.{Taken}
use Rattle.graph.specs.Answer.{Accepted, Refused}
use Rattle.graph.proofs.Accepted as reader
use Rattle.second.specs.Answers.{SecondIn, too_many, found, SecondOf, refused, accepted}
use Rattle.second.specs.Seconded.{Seconded}
use Rattle.second.proofs.Unique.{second-of_unique}
use Rattle.bounds.specs.Bounded.{Bounded}
use Rattle.codes.specs.Coded.{coded_second_of}
use Rattle.codes.specs.declared.PlannerSecond.{PlannerSecond}
use Rattle.claims.specs.Claims.{Bytes, IsAccepted, graph_in, at_0}
use Rattle.claims.specs.Entries.{ReadGives, BoundsGives, SecondGives, PlannerSecondGives}
use Rattle.claims.proofs.Entries.{read-given, bounds-given, second-given, planner_second-given}
use Rattle.claims.proofs.Demand2.{bounds-are}

-- ---- the bound, and the schedules that end by it

-- where `second` accepts, the reader did
pub accepted-file : {s : List ℕ} {r : Seconded} → SecondOf s r → r.answer ≡ Accepted → IsAccepted s
accepted-file (refused e a z) ok = absurd (let z : ◌≡◌ {A = ℕ} 0 1 = cc in omega arith)
accepted-file (accepted e f) ok = e

module _ {s : List ℕ} {r : Seconded} (R : SecondGives s r) (ok : r.answer ≡ Accepted) where
  -- THEOREM. What `second` gives is NEW-B-2 of the file's graph, which has at most 4,096 complete paths.
  pub second_is : NewB2 (graph_in s) r.parts.0 × (path_count (graph_in s) ≤ 4096)
  second_is = go (second-given R)
    where
      in_graph : SecondIn (graph_in s) r → NewB2 (graph_in s) r.parts.0 × (path_count (graph_in s) ≤ 4096)
      in_graph (too_many l a z) = absurd (let z : ◌≡◌ {A = ℕ} 0 1 = cc in omega arith)
      in_graph (found l a b) = (b, l)

      go : SecondOf s r → NewB2 (graph_in s) r.parts.0 × (path_count (graph_in s) ≤ 4096)
      go (refused e a z) = absurd (let z : ◌≡◌ {A = ℕ} 0 1 = cc in omega arith)
      go (accepted e f) = in_graph f

  module _ (bytes : Bytes s) where
    -- THEOREM. Every schedule of demand 3 ends by it: one that names its cores, and one in document 01's words, which count.
    pub cores-end_by_second : (P : Placing) → Times (graph_in s) P.time → NoneIdle (graph_in s) P → EndsBy (graph_in s) (counted (graph_in s) P) r.parts.0
    unfolding counted
    cores-end_by_second P e N =
        let A = reader.taken s bytes (accepted-file (second-given R) ok) in demand_3_second A.well_formed A.acyclic e (counted_works N) _ second_is.0

    pub ends_by_second : (S : Schedule) → Times (graph_in s) S.time → WorkConserving (graph_in s) S → EndsBy (graph_in s) S r.parts.0
    ends_by_second S e c =
        let A = reader.taken s bytes (accepted-file (second-given R) ok) in demand_3_second A.well_formed A.acyclic e c _ second_is.0

    -- THEOREM. It is at most the NEW-B-1 that `bounds` gives.
    pub second-below-new : {b : Bounded} → BoundsGives s b → r.parts.0 ≤ b.new.0
    second-below-new {b} B =
        let a = accepted-file (second-given R) ok in
        let A = reader.taken s bytes a in
        second-le-new A.well_formed A.acyclic _ _ second_is.0 (bounds-are B ((bounds-given B).answer ∙ a)).new

-- ---- the refusals

-- THEOREM. Of a file that the reader refuses, `second` says no as the reader does.
pub second-first : {s : List ℕ} {t : Taken} {x : Refusal} {r : Seconded} → ReadGives s t → t.answer ≡ Refused x → SecondGives s r
    → (r.answer ≡ Refused x) × (r.parts.0 ≡ 0)
second-first {s} {t} {x} {r} T said R = go (second-given R)
  where
    file : (read_of s).answer ≡ Refused x
    file = sym (ap (λ (t : Taken). t.answer) (read-given T)) ∙ said

    go : SecondOf s r → (r.answer ≡ Refused x) × (r.parts.0 ≡ 0)
    go (refused e a z) = (a ∙ (sym e ∙ file), z)
    go (accepted e f) = absurd (let z : ◌≡◌ {A = ℕ} 0 1 = cc in omega arith)

-- THEOREM. Of an accepted file, 17 at 0 is given exactly where its graph has more than 4,096 complete paths, and nothing else is refused; beside
-- it stands 0.
module _ {s : List ℕ} {t : Taken} (T : ReadGives s t) (ok : t.answer ≡ Accepted) {r : Seconded} (R : SecondGives s r) where
  file : (read_of s).answer ≡ Accepted
  file = sym (ap (λ (t : Taken). t.answer) (read-given T)) ∙ ok

  in-file : SecondIn (graph_in s) r
  in-file = go (second-given R)
    where
      go : SecondOf s r → SecondIn (graph_in s) r
      go (refused e a z) = absurd (let q = file in let z : ◌≡◌ {A = ℕ} 0 1 = cc in omega arith)
      go (accepted e f) = f

  pub second_17 : (r.answer ≡ Refused (at_0 17)) ↔ (4096 < path_count (graph_in s))
  second_17 = go in-file
    where
      go : SecondIn (graph_in s) r → (r.answer ≡ Refused (at_0 17)) ↔ (4096 < path_count (graph_in s))
      go (too_many l a z) = (λ q. l, λ q. a)
      go (found l a b) = (λ q. absurd (let z : ◌≡◌ {A = ℕ} 0 1 = cc in omega arith), λ q. absurd (omega arith))

  pub second-alone : {x : Refusal} → r.answer ≡ Refused x → (x ≡ at_0 17) × (r.parts.0 ≡ 0)
  second-alone {x} said = go in-file
    where
      go : SecondIn (graph_in s) r → (x ≡ at_0 17) × (r.parts.0 ≡ 0)
      go (too_many l a z) = (cc, z)
      go (found l a b) = absurd (let z : ◌≡◌ {A = ℕ} 0 1 = cc in omega arith)

-- THEOREM. That number counts the complete paths: of an accepted file's graph there is a list that has each of them once, and every such list has
-- so many places.
module _ {s : List ℕ} {t : Taken} (bytes : Bytes s) (T : ReadGives s t) (ok : t.answer ≡ Accepted) where
  pub paths_listed : (l : List (List ℕ)) × AllPaths (graph_in s) l × (length l ≡ path_count (graph_in s))
  paths_listed =
      let A = reader.taken s bytes (sym (ap (λ (t : Taken). t.answer) (read-given T)) ∙ ok) in model.all_paths A.well_formed A.acyclic

  pub paths_counted : (l : List (List ℕ)) → AllPaths (graph_in s) l → length l ≡ path_count (graph_in s)
  paths_counted =
      let A = reader.taken s bytes (sym (ap (λ (t : Taken). t.answer) (read-given T)) ∙ ok) in model.all_paths_length A.well_formed A.acyclic

-- ---- for C and Rust

-- THEOREM. The entry for C gives what this gives, in numbers.
pub planner_second-is : {s : List ℕ} {p : PlannerSecond} {r : Seconded} → PlannerSecondGives s p → SecondGives s r → p ≡ coded_second_of r
planner_second-is {r = r} q h =
    let c = planner_second-given q in c.coded ∙ ap coded_second_of (second-of_unique c.seconded r c.of (second-given h))
