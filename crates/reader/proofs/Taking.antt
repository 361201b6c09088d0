-- What the search over the numbers up to 10 gives, and then number 11.
use mathlib.Core.Path.{◌≡◌, refl, ◌∙◌}
use mathlib.Core.Bool.{Bool, true, false}
use mathlib.Core.List.{List}
use Prim.Native.Nat.{ℕ, ◌≤◌, ◌<◌}
use native.Mathlib.Omega.{arith}
use native.Mathlib.Decide.{ℕ_discrete}
use lib.ListN.{length, get_or}
use lib.Dec.{ltb, lit<, lit≤}
use borrow.Author.Tests.{lt-ltb, le-ltb, ltb-true, ltb-false}
use Rattle.model.specs.Places.{pick, table}
use Rattle.model.specs.Cycle.{cyclic}
use Rattle.graph.specs.File.{records, many, graph_of}
use Rattle.graph.specs.Model.{from, to, as_model}
use Rattle.graph.specs.Rules.{holds, per_record_of, places, rule11}
use Rattle.graph.specs.Judge.{place_of, applies, lowest, judge_from}
use Rattle.graph.specs.declared.Refusal.{Refusal}
use Rattle.graph.specs.Answer.{Answer, Accepted, Refused}
use Rattle.graph.proofs.Judging.{not-applies, not_for_any, whole-place, whole-applies, whole-not, lowest-at, lowest-past, below-lowest, lowest-above, judge-at, judge-none}
use Rattle.graph.proofs.Accepted.{few_vertices, few_edges, from_known, to_known, ascending}
use Rattle.starts.specs.Starts.{first_edge, Rows}
use Rattle.reader.specs.Steps.{Quiet, lowest_in_of}

pub few-places : (s : List ℕ) (num : ℕ) → length s ≤ 9320 → places s num ≤ 1165
unfolding places
few-places s num h = go (per_record_of num)
  where
    go : (b : Bool) → pick b (records s) 1 ≤ 1165
    go true = omega arith
    go false = omega arith

-- one answer is not both
pub not-both : {a : Answer} {x : Refusal} → a ≡ Accepted → a ≡ Refused x → ⊥
not-both p q = let z : ◌≡◌ {A = ℕ} 0 1 = cc in omega arith

module _ (s : List ℕ) where
  -- what the search over the numbers up to 10 gives
  pub found_at : (num : ℕ) → 2 ≤ num → num < 11 → ((j : ℕ) → j < num → 2 ≤ j → applies s j ≡ false) → applies s num ≡ true
      → lowest_in_of s ≡ Refused (record { number = num; place = place_of s num })
  unfolding lowest_in_of
  found_at num f l below h = rw (lowest-at s 2 num f below (omega arith) h, lt-ltb num 11 l) refl

  pub found_none : ((j : ℕ) → j < 11 → 2 ≤ j → applies s j ≡ false) → lowest_in_of s ≡ Accepted
  unfolding lowest_in_of
  found_none below =
      let l : 11 ≤ lowest 2 s = lowest-above s 2 11 (lit≤ tt) (lit≤ tt) below in
      rw (le-ltb (lowest 2 s) 11 l) refl

  pub found-quiet : Quiet s → lowest_in_of s ≡ Accepted
  found-quiet q = found_none (λ j l f. not_for_any s j (q j f l))

  -- a number up to 10 is the answer
  pub refused-found : (x : Refusal) → lowest_in_of s ≡ Refused x → judge_from 2 s ≡ Refused x
  unfolding lowest_in_of
  refused-found x h = go (ltb (lowest 2 s) 11) refl h
    where
      go : (b : Bool) → ltb (lowest 2 s) 11 ≡ b → pick b (Refused (record { number = lowest 2 s; place = place_of s (lowest 2 s) })) Accepted ≡ Refused x
          → judge_from 2 s ≡ Refused x
      go true e h = let l = ltb-true (lowest 2 s) 11 e in judge-at s 2 (lowest 2 s) (omega arith) refl ∙ h
      go false e h = absurd (not-both refl h)

  -- and where none is found, none holds
  pub quiet-found : lowest_in_of s ≡ Accepted → Quiet s
  unfolding lowest_in_of
  quiet-found h num f l = go (ltb (lowest 2 s) 11) refl h
    where
      go : (b : Bool) → ltb (lowest 2 s) 11 ≡ b → pick b (Refused (record { number = lowest 2 s; place = place_of s (lowest 2 s) })) Accepted ≡ Accepted
          → (k : ℕ) → k < places s num → holds s num k ≡ false
      go true e h = absurd (not-both h refl)
      go false e h = let m = ltb-false (lowest 2 s) 11 e in not-applies s num (below-lowest s 2 num f (omega arith) (omega arith))

  -- then number 11 is said of the graph that the records give
  module _ (q : Quiet s) where
    row-11 : holds s 11 0 ≡ cyclic (as_model (graph_of s))
    unfolding holds rule11
    row-11 = refl

    past : (j : ℕ) → j < 11 → 2 ≤ j → applies s j ≡ false
    past j l f = not_for_any s j (q j f l)

    pub cycle-refused : cyclic (as_model (graph_of s)) ≡ true → judge_from 2 s ≡ Refused (record { number = 11; place = 0 })
    cycle-refused c =
        let e : lowest 2 s ≡ 11 = lowest-at s 2 11 (lit≤ tt) past (lit< tt) (whole-applies s 11 refl (row-11 ∙ c)) in
        rw (judge-at s 2 11 (lit< tt) e, whole-place s 11 refl (row-11 ∙ c)) refl

    pub acyclic-accepted : cyclic (as_model (graph_of s)) ≡ false → judge_from 2 s ≡ Accepted
    acyclic-accepted c = judge-none s 2 (lowest-past s 2 12 (lit≤ tt) (λ j l f. at j l f (ℕ_discrete j 11)) refl)
      where
        at : (j : ℕ) → j < 12 → 2 ≤ j → Dec (j ≡ 11) → applies s j ≡ false
        at j l f (yes e) = rw e (whole-not s 11 refl (row-11 ∙ c))
        at j l f (no e) = past j (omega arith) f

  -- what the numbers up to 10 tell of the counts and of the edges
  module _ (bytes : (i : ℕ) → get_or s i 0 < 256) (q : Quiet s) where
    pub rows : Rows (graph_of s).edge (many s 2) (many s 1) (table (first_edge (graph_of s)) 129)
    unfolding graph_of from to
    rows = record {
      few_vertices = few_vertices s bytes q;
      few_edges = few_edges s bytes q;
      from_known = from_known s bytes q;
      to_known = to_known s bytes q;
      ascending = ascending s bytes q;
      begin = refl;
    }
