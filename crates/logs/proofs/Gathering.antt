-- The keys of the vertices so far, with those of one more: they differ from all others, since a key tells its vertex.
use mathlib.Core.Path.{◌≡◌, sym, ◌∙◌}
use mathlib.Core.Logic.{◌⊎◌, inl, inr, ⊎_elim}
use mathlib.Core.List.{List}
use Prim.Native.Nat.{ℕ, ◌+◌, ◌-◌, ◌*◌, ◌≤◌, ◌<◌}
use native.Mathlib.Omega.{arith}
use native.Mathlib.Decide.{ℕ_discrete}
use lib.ListN.{length, get_or, set, length-set}
use lib.Seq.{get_or-set_same, get_or-set_other}
use Rattle.model.proofs.Bools.{le-or-lt}
use Rattle.logs.specs.Keys.{start_key, stop_key, KeyOf, Gathered}

module _ (e F : ℕ → ℕ) where
  pub gathered_none : (l : List ℕ) → length l ≡ 256 → Gathered e F 0 0 l
  gathered_none l q = record {
    long = q;
    few = omega arith;
    of = λ i b. absurd (omega arith);
    stop = λ v b. absurd (omega arith);
    start = λ v b. absurd (omega arith);
    once = λ i j b. absurd (omega arith);
  }

  module _ (v m : ℕ) (l : List ℕ) (h : Gathered e F v m l) where
    later : {x : ℕ} → KeyOf e F v x → KeyOf e F (v + 1) x
    later k = record { v = k.v; known = omega (arith, k.known); some = k.some; is = k.is }

    -- a vertex without a time has no record
    pub gathered-skip : e v ≡ 0 → Gathered e F (v + 1) m l
    gathered-skip z = record {
      long = h.long;
      few = omega (arith, h.few);
      of = λ i b. later (h.of i b);
      stop = λ u b s. h.stop u (below u b s) s;
      start = λ u b s. h.start u (below u b s) s;
      once = h.once;
    }
      where
        below : (u : ℕ) → u < v + 1 → 0 < e u → u < v
        below u b s = go (ℕ_discrete u v)
          where
            go : Dec (u ≡ v) → u < v
            go (yes q) = absurd (omega (arith, rw q at s))
            go (no q) = omega arith

    module _ (known : v < 128) (some : 0 < e v) (new : List ℕ) (long : length new ≡ 256)
        (at-stop : get_or new m 0 ≡ stop_key F v) (at_start : get_or new (m + 1) 0 ≡ start_key e F v)
        (kept : (i : ℕ) → i < m → get_or new i 0 ≡ get_or l i 0) where
      -- the two places that are new
      where-is : (i : ℕ) → i < m + 2 → (i < m) ⊎ ((i ≡ m) ⊎ (i ≡ m + 1))
      where-is i b = go (ℕ_discrete i m) (ℕ_discrete i (m + 1))
        where
          go : Dec (i ≡ m) → Dec (i ≡ m + 1) → (i < m) ⊎ ((i ≡ m) ⊎ (i ≡ m + 1))
          go (yes q) r = inr (inl q)
          go (no q) (yes r) = inr (inr r)
          go (no q) (no r) = inl (omega arith)

      old-differs : {x : ℕ} → KeyOf e F v x → (x ≡ stop_key F v → ⊥) × (x ≡ start_key e F v → ⊥)
      unfolding stop_key start_key
      old-differs k = ⊎_elim
          (λ q. ((λ r. omega (arith, k.known)), (λ r. omega (arith, k.known))))
          (λ q. ((λ r. omega (arith, k.known)), (λ r. omega (arith, k.known))))
          k.is

      new-differ : stop_key F v ≡ start_key e F v → ⊥
      unfolding stop_key start_key
      new-differ q = omega arith

      differ : (i j : ℕ) → i < j → j < m + 2 → get_or new i 0 ≡ get_or new j 0 → ⊥
      differ i j a b q = go (where-is i (omega arith)) (where-is j b)
        where
          go : (i < m) ⊎ ((i ≡ m) ⊎ (i ≡ m + 1)) → (j < m) ⊎ ((j ≡ m) ⊎ (j ≡ m + 1)) → ⊥
          go (inl x) (inl y) = omega (arith, h.once i j x y (sym (kept i x) ∙ (q ∙ kept j y)))
          go (inl x) (inr (inl y)) = (old-differs (h.of i x)).0 (sym (kept i x) ∙ (rw y at q ∙ at-stop))
          go (inl x) (inr (inr y)) = (old-differs (h.of i x)).1 (sym (kept i x) ∙ (rw y at q ∙ at_start))
          go (inr (inl x)) (inl y) = omega arith
          go (inr (inl x)) (inr (inl y)) = omega arith
          go (inr (inl x)) (inr (inr y)) = new-differ (sym at-stop ∙ (rw (x, y) at q ∙ at_start))
          go (inr (inr x)) (inl y) = omega arith
          go (inr (inr x)) (inr (inl y)) = omega arith
          go (inr (inr x)) (inr (inr y)) = omega arith

      gathered-by : Gathered e F (v + 1) (m + 2) new
      gathered-by = record {
        long = long;
        few = omega (arith, h.few);
        of = λ i b. whose i (where-is i b);
        stop = λ u b s. stops u s (ℕ_discrete u v) b;
        start = λ u b s. starts u s (ℕ_discrete u v) b;
        once = λ i j a b q. same i j a b q (ℕ_discrete i j);
      }
        where
          whose : (i : ℕ) → (i < m) ⊎ ((i ≡ m) ⊎ (i ≡ m + 1)) → KeyOf e F (v + 1) (get_or new i 0)
          whose i (inl x) = rw (kept i x) (later (h.of i x))
          whose i (inr (inl x)) = record { v = v; known = omega arith; some = some; is = inl (rw x at-stop) }
          whose i (inr (inr x)) = record { v = v; known = omega arith; some = some; is = inr (rw x at_start) }

          stops : (u : ℕ) → 0 < e u → Dec (u ≡ v) → u < v + 1 → (i : ℕ) × (i < m + 2) × (get_or new i 0 ≡ stop_key F u)
          stops u s (yes q) b = (m, omega arith, rw q at-stop)
          stops u s (no q) b = let r = h.stop u (omega arith) s in (r.0, omega (arith, r.1), kept r.0 r.1 ∙ r.2)

          starts : (u : ℕ) → 0 < e u → Dec (u ≡ v) → u < v + 1 → (i : ℕ) × (i < m + 2) × (get_or new i 0 ≡ start_key e F u)
          starts u s (yes q) b = (m + 1, omega arith, rw q at_start)
          starts u s (no q) b = let r = h.start u (omega arith) s in (r.0, omega (arith, r.1), kept r.0 r.1 ∙ r.2)

          same : (i j : ℕ) → i < m + 2 → j < m + 2 → get_or new i 0 ≡ get_or new j 0 → Dec (i ≡ j) → i ≡ j
          same i j a b q (yes r) = r
          same i j a b q (no r) = absurd (⊎_elim (λ (x : i ≤ j). differ i j (omega arith) b q) (λ (x : j < i). differ j i x a (sym q)) (le-or-lt i j))

    -- one with a time has two
    pub gathered-more : v < 128 → 0 < e v → e v ≤ F v
        → Gathered e F (v + 1) (m + 2) (set (set l m (512 * F v + v)) (m + 1) (512 * F v + v + 256 - 512 * e v))
    unfolding stop_key start_key
    gathered-more known some enough =
        gathered-by known some (set (set l m (512 * F v + v)) (m + 1) (512 * F v + v + 256 - 512 * e v)) (length-set (set l m (512 * F v + v)) (m + 1) (512 * F v + v + 256 - 512 * e v) ∙ (length-set l m (512 * F v + v) ∙ h.long)) there here kept
      where
        fits : m + 1 < length (set l m (512 * F v + v))
        fits = omega (arith, length-set l m (512 * F v + v), h.long, h.few)

        there : get_or (set (set l m (512 * F v + v)) (m + 1) (512 * F v + v + 256 - 512 * e v)) m 0 ≡ stop_key F v
        there =
            get_or-set_other (set l m (512 * F v + v)) (m + 1) m (512 * F v + v + 256 - 512 * e v) 0 (λ q. omega arith)
            ∙ get_or-set_same l m (512 * F v + v) 0 (omega (arith, h.long, h.few))

        here : get_or (set (set l m (512 * F v + v)) (m + 1) (512 * F v + v + 256 - 512 * e v)) (m + 1) 0 ≡ start_key e F v
        here = get_or-set_same (set l m (512 * F v + v)) (m + 1) (512 * F v + v + 256 - 512 * e v) 0 fits ∙ omega arith

        kept : (i : ℕ) → i < m → get_or (set (set l m (512 * F v + v)) (m + 1) (512 * F v + v + 256 - 512 * e v)) i 0 ≡ get_or l i 0
        kept i b =
            get_or-set_other (set l m (512 * F v + v)) (m + 1) i (512 * F v + v + 256 - 512 * e v) 0 (λ q. omega arith)
            ∙ get_or-set_other l m i (512 * F v + v) 0 (λ q. omega arith)
