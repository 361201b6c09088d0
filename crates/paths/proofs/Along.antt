-- The largest sum by the edges of one vertex, which are looked at one by one. It rests on the sums of the vertices that they go to, and
-- on no other.
use mathlib.Core.Path.{◌≡◌, refl, sym, ap, ◌∙◌}
use mathlib.Core.List.{List}
use mathlib.Core.Logic.{◌⊎◌, inl, inr}
use Prim.Native.Nat.{ℕ, ◌+◌, ◌≤◌, ◌<◌, max}
use native.Mathlib.Omega.{arith}
use native.Mathlib.Decide.{ℕ_discrete}
use lib.ListN.{get_or, set}
use lib.Seq.{get_or-set_other}
use Rattle.model.proofs.Bools.{le-or-lt}
use Rattle.paths.specs.Ahead.{weigh}
use Rattle.paths.specs.Along.{goes, sum_by, Given, Follows}

module _ (e w s : List ℕ) (a : ℕ) where
  pub follows_none : Follows e w s a a 0
  follows_none = record { most = λ i l h. absurd (omega arith); attained = inl refl }

  -- one edge more, to the vertex v
  pub follows_more : (i v m x : ℕ) → a ≤ i → v ≡ goes e i → x ≡ max m (weigh w v + get_or s v 0) → Follows e w s a i m → Follows e w s a (i + 1) x
  follows_more i v m x l ev ex F = record {
    most = λ j g h. at_most j g h (ℕ_discrete j i);
    attained = attained (le-or-lt m (weigh w v + get_or s v 0)) F.attained;
  }
    where
      at_most : (j : ℕ) → a ≤ j → j < i + 1 → Dec (j ≡ i) → sum_by e w s j ≤ x
      at_most j g h (yes q) = rw (q, ← ev) (omega arith)
      at_most j g h (no q) = omega (arith, F.most j g (omega arith))

      attained : (m ≤ weigh w v + get_or s v 0) ⊎ (weigh w v + get_or s v 0 < m) → Given e w s a i m → Given e w s a (i + 1) x
      attained (inl h) r = let q : x ≡ weigh w v + get_or s v 0 = omega arith in inr (i, l, omega arith, rw ev at q)
      attained (inr h) (inl z) = absurd (omega arith)
      attained (inr h) (inr r) = inr (r.0, r.1, omega (arith, r.2), omega (arith, r.3))

  -- no edge goes to u, so that its sum may change
  pub follows_kept : (b u x y : ℕ) → ((i : ℕ) → a ≤ i → i < b → goes e i ≡ u → ⊥) → Follows e w s a b y → Follows e w (set s u x) a b y
  follows_kept b u x y apart F = record { most = λ i g h. rw (there i g h) (F.most i g h); attained = still F.attained }
    where
      there : (i : ℕ) → a ≤ i → i < b → get_or (set s u x) (goes e i) 0 ≡ get_or s (goes e i) 0
      there i g h = get_or-set_other s u (goes e i) x 0 (apart i g h)

      still : Given e w s a b y → Given e w (set s u x) a b y
      still (inl z) = inl z
      still (inr r) = inr (r.0, r.1, r.2, r.3 ∙ ap (λ (z : ℕ). weigh w (goes e r.0) + z) (sym (there r.0 r.1 r.2)))
