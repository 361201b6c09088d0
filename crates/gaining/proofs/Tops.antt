-- The largest that a list has from a place on: place by place, past a place, and where the edges of a vertex have raised the list.
use mathlib.Core.Path.{◌≡◌, refl, sym, ap, ◌∙◌}
use mathlib.Core.Bool.{Bool, true, false}
use mathlib.Core.List.{List}
use mathlib.Core.Logic.{◌⊎◌, inl, inr}
use Prim.Native.Nat.{ℕ, ◌+◌, ◌≤◌, ◌<◌, max}
use native.Mathlib.Omega.{arith}
use native.Mathlib.Decide.{ℕ_discrete}
use lib.Dec.{eqb}
use lib.ListN.{get_or}
use borrow.Author.Tests.{lt-ltb, le-ltb, eqb-true, eq-eqb}
use Rattle.model.specs.Places.{pick}
use Rattle.model.proofs.Bools.{le-or-lt}
use Rattle.model.proofs.Places.{any_intro, any_elim}
use Rattle.summary.specs.Row.{nth, goes_to_next, Told}
use Rattle.gaining.specs.Passing.{at, higher_of, TopFrom, Led}
use Rattle.gaining.specs.declared.passing.Top.{Top}

-- what is larger stands, with its vertex
pub higher-kept : (t : Top) (x v : ℕ) → x ≤ t.most → higher_of t x v ≡ t
higher-kept t x v l = rw (le-ltb t.most x l) refl

pub higher_raised : (t : Top) (x v : ℕ) → t.most < x → higher_of t x v ≡ record { most = x; vertex = v }
higher_raised t x v l = rw (lt-ltb t.most x l) refl

module _ (o l : List ℕ) where
  pub top-none : (p v : ℕ) → TopFrom o l p p (record { most = 0; vertex = v })
  top-none p v = record { most = λ q a h. absurd (omega arith); is = inl refl }

  -- one place more
  pub top-more : (n p : ℕ) (t r : Top) → p ≤ n → r ≡ higher_of t (at o l n) (get_or o n 0) → TopFrom o l n p t → TopFrom o l (n + 1) p r
  top-more n p t r h is F = go (le-or-lt (at o l n) t.most)
    where
      kept : at o l n ≤ t.most → (q : ℕ) → p ≤ q → q < n + 1 → Dec (q ≡ n) → at o l q ≤ t.most
      kept a q b m (yes z) = rw z a
      kept a q b m (no z) = F.most q b (omega arith)

      on : (t.most ≡ 0) ⊎ ((q : ℕ) × (p ≤ q) × (q < n) × (t.vertex ≡ get_or o q 0) × (t.most ≡ at o l q))
          → (t.most ≡ 0) ⊎ ((q : ℕ) × (p ≤ q) × (q < n + 1) × (t.vertex ≡ get_or o q 0) × (t.most ≡ at o l q))
      on (inl z) = inl z
      on (inr x) = inr (x.0, x.1, omega (arith, x.2), x.3, x.4)

      raised : t.most < at o l n → (q : ℕ) → p ≤ q → q < n + 1 → Dec (q ≡ n) → at o l q ≤ at o l n
      raised a q b m (yes z) = rw z (omega arith)
      raised a q b m (no z) = omega (arith, F.most q b (omega arith))

      go : (at o l n ≤ t.most) ⊎ (t.most < at o l n) → TopFrom o l (n + 1) p r
      go (inl a) = rw (is ∙ higher-kept t (at o l n) (get_or o n 0) a) (record { most = λ q b m. kept a q b m (ℕ_discrete q n); is = on F.is })
      go (inr a) =
          rw (is ∙ higher_raised t (at o l n) (get_or o n 0) a)
          (record { most = λ q b m. raised a q b m (ℕ_discrete q n); is = inr (n, h, omega arith, refl, refl) })

  -- past a place, where it is not of the vertex there
  pub top-past : (n p : ℕ) (t : Top) → (t.vertex ≡ get_or o p 0 → ⊥) → TopFrom o l n p t → TopFrom o l n (p + 1) t
  top-past n p t d F = record { most = λ q a h. F.most q (omega arith) h; is = by F.is }
    where
      later : (q : ℕ) → p ≤ q → t.vertex ≡ get_or o q 0 → Dec (q ≡ p) → p + 1 ≤ q
      later q a z (yes i) = absurd (d (rw i at z))
      later q a z (no i) = omega arith

      by : (t.most ≡ 0) ⊎ ((q : ℕ) × (p ≤ q) × (q < n) × (t.vertex ≡ get_or o q 0) × (t.most ≡ at o l q))
          → (t.most ≡ 0) ⊎ ((q : ℕ) × (p + 1 ≤ q) × (q < n) × (t.vertex ≡ get_or o q 0) × (t.most ≡ at o l q))
      by (inl z) = inl z
      by (inr x) = inr (x.0, later x.0 x.1 x.3 (ℕ_discrete x.0 p), x.2, x.3, x.4)

-- ---- the edges of a vertex

module _ (e st : List ℕ) (b : ℕ → ℕ) (u : ℕ) where
  pub led-none : (t : Top) → Led e st b u 0 t t
  led-none t = record { kept = omega arith; most = λ j h. absurd (omega arith); is = inl refl }

  pub led-more : (t r r' : Top) (k x : ℕ) → x ≡ nth e st u k → r' ≡ higher_of r (b x) x → Led e st b u k t r → Led e st b u (k + 1) t r'
  led-more t r r' k x at is L = go (le-or-lt (b x) r.most)
    where
      same : b (nth e st u k) ≡ b x
      same = ap b (sym at)

      most : (y : ℕ) → r.most ≤ y → b x ≤ y → (j : ℕ) → j < k + 1 → Dec (j ≡ k) → b (nth e st u j) ≤ y
      most y m h j a (yes z) = rw z (omega (arith, same))
      most y m h j a (no z) = omega (arith, L.most j (omega arith))

      on : (r ≡ t) ⊎ ((j : ℕ) × (j < k) × (r.vertex ≡ nth e st u j) × (r.most ≡ b (nth e st u j)))
          → (r ≡ t) ⊎ ((j : ℕ) × (j < k + 1) × (r.vertex ≡ nth e st u j) × (r.most ≡ b (nth e st u j)))
      on (inl z) = inl z
      on (inr y) = inr (y.0, omega (arith, y.1), y.2, y.3)

      go : (b x ≤ r.most) ⊎ (r.most < b x) → Led e st b u (k + 1) t r'
      go (inl a) =
          rw (is ∙ higher-kept r (b x) x a)
          (record { kept = L.kept; most = λ j h. most r.most (omega arith) a j h (ℕ_discrete j k); is = on L.is })
      go (inr a) =
          rw (is ∙ higher_raised r (b x) x a)
          (record {
            kept = omega (arith, L.kept);
            most = λ j h. most (b x) (omega arith) (omega arith) j h (ℕ_discrete j k);
            is = inr (k, omega arith, at, sym same);
          })

  -- where they go to places from p on, it is the largest from there on again
  pub top-led : (o l l' : List ℕ) (n p k : ℕ) (t r : Top) → ((j : ℕ) → j < k → (q : ℕ) × (p ≤ q) × (q < n) × (nth e st u j ≡ get_or o q 0))
      → TopFrom o l n p t → Told e st b u k l l' → Led e st b u k t r → TopFrom o l' n p r
  top-led o l l' n p k t r later F D L = record { most = most; is = by L.is }
    where
      -- what stands for a vertex has grown, and is no larger than the largest
      grown : (x : ℕ) (c : Bool) → get_or l' x 0 ≡ pick c (max (get_or l x 0) (b x)) (get_or l x 0) → get_or l x 0 ≤ get_or l' x 0
      grown x true q = omega arith
      grown x false q = omega arith

      within : (x : ℕ) → get_or l x 0 ≤ t.most → (c : Bool) → goes_to_next e st u k x ≡ c → get_or l' x 0 ≡ pick c (max (get_or l x 0) (b x)) (get_or l x 0)
          → get_or l' x 0 ≤ r.most
      within x h true z q =
          let j = any_elim (λ j. eqb (nth e st u j) x) k z in
          omega (arith, L.kept, L.most j.0 j.1, ap b (eqb-true (nth e st u j.0) x j.2))
      within x h false z q = omega (arith, L.kept)

      most : (q : ℕ) → p ≤ q → q < n → at o l' q ≤ r.most
      most q a h = let x = get_or o q 0 in within x (F.most q a h) (goes_to_next e st u k x) refl (D.at x)

      by : (r ≡ t) ⊎ ((j : ℕ) × (j < k) × (r.vertex ≡ nth e st u j) × (r.most ≡ b (nth e st u j)))
          → (r.most ≡ 0) ⊎ ((q : ℕ) × (p ≤ q) × (q < n) × (r.vertex ≡ get_or o q 0) × (r.most ≡ at o l' q))
      by (inl z) = old F.is
        where
          large : r.most ≡ t.most
          large = ap (λ (s : Top). s.most) z

          old : (t.most ≡ 0) ⊎ ((q : ℕ) × (p ≤ q) × (q < n) × (t.vertex ≡ get_or o q 0) × (t.most ≡ at o l q))
              → (r.most ≡ 0) ⊎ ((q : ℕ) × (p ≤ q) × (q < n) × (r.vertex ≡ get_or o q 0) × (r.most ≡ at o l' q))
          old (inl y) = inl (large ∙ y)
          old (inr y) =
              let x = get_or o y.0 0 in
              inr (
                y.0,
                y.1,
                y.2,
                ap (λ (s : Top). s.vertex) z ∙ y.3,
                omega (arith, large, y.4, most y.0 y.1 y.2, grown x (goes_to_next e st u k x) (D.at x)),
              )
      by (inr y) =
          let q = later y.0 y.1 in
          let x = nth e st u y.0 in
          let goes : goes_to_next e st u k x ≡ true = any_intro (λ j. eqb (nth e st u j) x) k y.0 y.1 (eq-eqb x x refl) in
          let new : get_or l' x 0 ≡ max (get_or l x 0) (b x) = rw goes at (D.at x) in
          inr (
            q.0,
            q.1,
            q.2,
            y.2 ∙ q.3,
            omega (arith, y.3, new, ap (λ (z : ℕ). get_or l' z 0) q.3, most q.0 q.1 q.2),
          )
