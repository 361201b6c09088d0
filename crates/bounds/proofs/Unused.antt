-- What no vertex has counts for nothing: graphs with the same vertices, WCETs and edges, in which each vertex's kind has as many cores, have
-- the same OLD-B and the same NEW-B-1, whatever else they declare. Every term of either bound is a vertex's.
use mathlib.Core.Path.{◌≡◌, refl, ap, ap₂, sym, ◌∙◌}
use Prim.Native.Nat.{ℕ, ◌+◌, ◌-◌, ◌*◌, ◌/◌, ◌≤◌, ◌<◌}
use native.Mathlib.Omega.{arith}
use Rattle.model.specs.Places.{sum}
use Rattle.model.specs.Graph.{Graph, WellFormed}
use Rattle.model.specs.Bounds.{PARTS, volume, most_cores_of, scaled, OldB, NewB1}
use Rattle.model.proofs.Sums.{sum_ext}
use Rattle.model.proofs.Shares.{volume_by_vertex}
use Rattle.model.proofs.Compare.{most-cores, most-cores-of}
use Rattle.model.proofs.Alike.{Alike, greatest_alike}
use Rattle.paths.proofs.Complete.{greatest_same}

most-below : {G H : Graph} → WellFormed G → WellFormed H → G.n ≡ H.n
    → ((v : ℕ) → v < G.n → G.cores (G.kind v) ≡ H.cores (H.kind v)) → most_cores_of G ≤ most_cores_of H
most-below W X e cores = let r = most-cores-of W in omega (arith, r.2, cores r.0 r.1, most-cores X r.0 (omega (arith, r.1)))

module _ {G H : Graph} (W : WellFormed G) (X : WellFormed H) (S : Alike G H) (wcets : (v : ℕ) → v < G.n → G.wcet v ≡ H.wcet v)
    (cores : (v : ℕ) → v < G.n → G.cores (G.kind v) ≡ H.cores (H.kind v)) where
  back : (v : ℕ) → v < H.n → v < G.n
  back v l = omega (arith, S.vertices)

  most-same : most_cores_of G ≡ most_cores_of H
  most-same =
      omega (
        arith,
        most-below W X S.vertices cores,
        most-below X W (sym S.vertices) (λ v l. sym (cores v (back v l))),
      )

  volume-same : volume G ≡ volume H
  volume-same =
      volume_by_vertex W
      ∙ (sum_ext _ _ G.n (λ v l. ap₂ (λ (c m : ℕ). c * (PARTS / m)) (wcets v l) (cores v l))
      ∙ (ap (sum (λ v. H.wcet v * (PARTS / H.cores (H.kind v)))) S.vertices ∙ sym (volume_by_vertex X)))

  -- THEOREM. The two have the same bounds.
  pub old_b_same : {B : ℕ} → OldB G B → OldB H B
  old_b_same b = record {
    len = b.len;
    longest = greatest_same X G.wcet H.wcet (λ v l. wcets v (back v l)) (greatest_alike S b.longest);
    is = b.is ∙ ap₂ (λ (m x : ℕ). (PARTS - PARTS / m) * b.len + x) most-same volume-same;
  }

  pub new_b_1_same : {B : ℕ} → NewB1 G B → NewB1 H B
  unfolding scaled
  new_b_1_same b = record {
    len = b.len;
    longest = greatest_same X (scaled G) (scaled H)
        (λ v l. ap₂ (λ (c m : ℕ). c * (PARTS - PARTS / m)) (wcets v (back v l)) (cores v (back v l)))
        (greatest_alike S b.longest);
    is = b.is ∙ ap (λ (x : ℕ). b.len + x) volume-same;
  }
