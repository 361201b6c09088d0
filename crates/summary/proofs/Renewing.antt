-- Which sums are known before a pass: where all vertices are marked, none; where those are marked that a changed weight touches, the others', which
-- keep them.
use mathlib.Core.Path.{◌≡◌, refl, ap, ◌∙◌}
use mathlib.Core.Bool.{Bool, true, false}
use mathlib.Core.List.{List}
use Prim.Native.Nat.{ℕ, ◌<◌}
use native.Mathlib.Omega.{arith}
use lib.ListN.{get_or, replicate, length-replicate, get_or-replicate}
use Rattle.model.specs.Graph.{Graph}
use Rattle.model.specs.Cycle.{Walk, one, step}
use Rattle.model.specs.Summary.{EndingAt}
use Rattle.model.proofs.Bools.{clash}
use Rattle.model.proofs.Tables.{zeros}
use Rattle.model.proofs.Alike.{ending-kept, starting-kept}
use Rattle.graph.specs.Model.{as_model}
use Rattle.graph.specs.declared.Graph as reader
use Rattle.paths.specs.Ahead.{weigh, Weighed}
use Rattle.summary.specs.Tables.{Ends, Starts, EndsBut, StartsBut, Ahead, Behind, Cleared, Tables, Altering}
use Rattle.summary.specs.declared.Summary.{Summary}
use Rattle.summary.proofs.Along.{few}

-- the two halves
pub tables : {G : Graph} {w e s : List ℕ} → Ends G (weigh w) e → Starts G (weigh w) s → Tables G w (record { ending = e; starting = s })
tables E S = record {
  sums = record { ending = E.ending; starting = S.starting };
  ending_size = E.size;
  starting_size = S.size;
  ending_past = E.past;
  starting_past = S.past;
}

-- ---- all are marked

marked : (v : ℕ) → v < 128 → get_or (replicate 128 true) v false ≡ false → ⊥
marked v l z = clash (get_or-replicate {A = Bool} 128 v true false l) z

module _ {g : reader.Graph} {e st o : List ℕ} {n : ℕ} {w : List ℕ} (T : Weighed g e st o n w) where
  pub ends-all : EndsBut (as_model g) (weigh w) (replicate 128 true) (replicate 128 0)
  unfolding as_model
  ends-all = record {
    size = length-replicate {A = ℕ} 128 0;
    kept = λ v l z. absurd (marked v (omega (arith, few T)) z);
    cleared = λ v l z. zeros 128 v;
    past = λ v l. zeros 128 v;
  }

  pub starts-all : StartsBut (as_model g) (weigh w) (replicate 128 true) (replicate 128 0)
  unfolding as_model
  starts-all = record {
    size = length-replicate {A = ℕ} 128 0;
    kept = λ v l z. absurd (marked v (omega (arith, few T)) z);
    past = λ v l. zeros 128 v;
  }

-- ---- those that a changed weight touches

module _ {G : Graph} {v : ℕ} (t : List Bool) where
  -- a walk to a vertex without a mark comes from one without a mark
  ahead-walk : Ahead G v t → {u x : ℕ} → Walk G u x → get_or t x false ≡ false → get_or t u false ≡ false
  ahead-walk A {u = u} {x = x} (one d) z = A.on u x d z
  ahead-walk A {u = u} (step {v = y} d c) z = A.on u y d (ahead-walk A c z)

  -- and a walk from one goes to one
  behind_walk : Behind G v t → {u x : ℕ} → Walk G u x → get_or t u false ≡ false → get_or t x false ≡ false
  behind_walk B {u = u} {x = x} (one d) z = B.on u x d z
  behind_walk B {u = u} (step {v = y} d c) z = behind_walk B c (B.on u y d z)

module _ {g : reader.Graph} {e st o : List ℕ} {n : ℕ} {w : List ℕ} {r : Summary} {v : ℕ} (A : Altering g e st o n w r v) (t : List Bool) where
  other : get_or t v false ≡ true → (u : ℕ) → get_or t u false ≡ false → u ≡ v → ⊥
  other own u z q = clash (ap (λ (x : ℕ). get_or t x false) q ∙ own) z

  pub ends_touched : Ahead (as_model g) v t → {s : List ℕ} → Cleared t n r.ending s → EndsBut (as_model g) (weigh w) t s
  unfolding as_model
  ends_touched M {s} C = record {
    size = C.size;
    kept = kept;
    cleared = λ u l z. C.at u (omega (arith, A.weighed.vertices)) ∙ rw z refl;
    past = λ u l. C.past u (omega (arith, A.weighed.vertices)) ∙ A.summed.ending_past u l;
  }
    where
      kept : (u : ℕ) → u < g.n → get_or t u false ≡ false → EndingAt (as_model g) (weigh w) u (get_or s u 0)
      kept u l z =
          let q : get_or s u 0 ≡ get_or r.ending u 0 = C.at u (omega (arith, A.weighed.vertices)) ∙ rw z refl in
          rw q
          (ending-kept v (weigh A.old) (weigh w) A.same (other M.own u z) (λ c. clash M.own (ahead-walk t M c z)) (A.summed.sums.ending u l))

  pub starts_touched : Behind (as_model g) v t → StartsBut (as_model g) (weigh w) t r.starting
  unfolding as_model
  starts_touched M = record {
    size = A.summed.starting_size;
    kept = λ u l z.
        starting-kept v (weigh A.old) (weigh w) A.same (other M.own u z) (λ c. clash M.own (behind_walk t M c z)) (A.summed.sums.starting u l);
    past = A.summed.starting_past;
  }
