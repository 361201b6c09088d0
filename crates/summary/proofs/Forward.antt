-- Why one pass along the order finds the sums that end at the marked vertices. The predecessors of a vertex stand at earlier places: when its turn
-- comes they have all told it their sums, which were done by then, so its own is done as well. Nothing is told to an earlier place, so what
-- is done stays, and what is told to a vertex without a mark is less than its sum.
use mathlib.Core.Path.{◌≡◌, refl, sym, ap, ◌∙◌}
use mathlib.Core.Bool.{Bool, true, false}
use mathlib.Core.List.{List}
use mathlib.Core.Logic.{◌⊎◌, inl, inr}
use Prim.Native.Nat.{ℕ, ◌+◌, ◌≤◌, ◌<◌}
use native.Mathlib.Omega.{arith}
use native.Mathlib.Decide.{ℕ_discrete}
use lib.ListN.{get_or, length, set, length-set}
use lib.Seq.{get_or-set_same, get_or-set_other}
use Rattle.model.specs.Places.{pick}
use Rattle.model.specs.Graph.{Edge}
use Rattle.model.specs.Summary.{EndingAt}
use Rattle.model.proofs.Bools.{clash, cases, le-or-lt}
use Rattle.model.proofs.Summaries.{ending-edge, ending-step}
use Rattle.graph.specs.Model.{as_model}
use Rattle.graph.specs.declared.Graph.{Graph}
use Rattle.paths.specs.Ahead.{weigh, Weighed}
use Rattle.summary.specs.Row.{many, Told}
use Rattle.summary.specs.Tables.{Ends, EndsBut}
use Rattle.summary.proofs.Along.{well_formed, few, vertex, place, place-below, place_at, vertex-at, rises, ending-small}
use Rattle.summary.proofs.Raised.{told-apart, told_raised, Raised, raised_none, raised_alike, raised_more}

module _ {g : Graph} {e st o : List ℕ} {n : ℕ} {w : List ℕ} (T : Weighed g e st o n w) (t : List Bool) where
  -- what the predecessors before place j have told v: the largest of their sums, or 0
  abbrev SoFar : List ℕ → ℕ → ℕ → Type 0
  SoFar s = Raised T (λ u v. get_or s u 0) (λ v. 0) s

  pub record Forward (s : List ℕ) (j : ℕ) : Type 0 where
    pub size : length s ≡ 128
    pub done : (v : ℕ) → v < g.n → place T v < j → EndingAt (as_model g) (weigh w) v (get_or s v 0)
    pub kept : (v : ℕ) → v < g.n → get_or t v false ≡ false → EndingAt (as_model g) (weigh w) v (get_or s v 0)
    pub told : (v : ℕ) → v < g.n → get_or t v false ≡ true → j ≤ place T v → SoFar s j v
    pub past : (v : ℕ) → g.n ≤ v → get_or s v 0 ≡ 0

  pub forward_none : (s : List ℕ) → EndsBut (as_model g) (weigh w) t s → Forward s 0
  unfolding as_model
  forward_none s K = record {
    size = K.size;
    done = λ v l h. absurd (omega arith);
    kept = K.kept;
    told = λ v l z h. raised_none T _ _ s v (K.cleared v l z);
    past = K.past;
  }

  module _ (s : List ℕ) (j : ℕ) (l : j < n) (F : Forward s j) where
    abbrev u : ℕ
    u = get_or o j 0

    known : u < g.n
    known = vertex T j l

    before : (x : ℕ) → Edge (as_model g) x u → place T x < j
    before x d = omega (arith, rises T x u d, place_at T j l)

    done : (x : ℕ) → Edge (as_model g) x u → EndingAt (as_model g) (weigh w) x (get_or s x 0)
    unfolding as_model
    done x d = F.done x ((well_formed T).from x u d) (before x d)

    so_far : get_or t u false ≡ true → SoFar s j u
    so_far z = F.told u known z (omega (arith, place_at T j l))

    pub forward_fits : get_or s u 0 + weigh w u < 18446744073709551616
    unfolding as_model
    forward_fits = go (cases (get_or t u false))
      where
        by : (get_or s u 0 ≡ 0) ⊎ ((x : ℕ) × Edge (as_model g) x u × (place T x < j) × (get_or s u 0 ≡ get_or s x 0))
            → get_or s u 0 + weigh w u < 18446744073709551616
        by (inl q) = omega (arith, T.light u known)
        by (inr r) = omega (arith, T.light u known, r.3, ending-small T (done r.0 r.1))

        go : (get_or t u false ≡ true) ⊎ (get_or t u false ≡ false) → get_or s u 0 + weigh w u < 18446744073709551616
        go (inr z) = omega (arith, T.light u known, ending-small T (F.kept u known z))
        go (inl z) = by (so_far z).is

    module _ (y : ℕ) (is : y ≡ pick (get_or t u false) (get_or s u 0 + weigh w u) (get_or s u 0)) where
      here : get_or (set s u y) u 0 ≡ y
      here = get_or-set_same s u y 0 (omega (arith, F.size, known, few T))

      there : (v : ℕ) → (v ≡ u → ⊥) → get_or (set s u y) v 0 ≡ get_or s v 0
      there v d = get_or-set_other s u v y 0 d

      other : (v : ℕ) → (place T v ≡ j → ⊥) → v ≡ u → ⊥
      other v d q = d (ap (place T) q ∙ place_at T j l)

      -- the sum of u, from its predecessors'
      made : SoFar s j u → y ≡ get_or s u 0 + weigh w u → EndingAt (as_model g) (weigh w) u (get_or (set s u y) u 0)
      unfolding as_model
      made S q =
          ending-step (well_formed T) (weigh w) (λ x. get_or (set s u y) x 0) u known (omega (arith, here)) (λ x d. rw (same x d) (done x d))
          (λ x d. omega (arith, here, same x d, S.most x d (before x d))) (by S.is)
        where
          same : (x : ℕ) → Edge (as_model g) x u → get_or (set s u y) x 0 ≡ get_or s x 0
          same x d = there x (other x (λ z. omega (arith, before x d)))

          by : (get_or s u 0 ≡ 0) ⊎ ((x : ℕ) × Edge (as_model g) x u × (place T x < j) × (get_or s u 0 ≡ get_or s x 0))
              → (get_or (set s u y) u 0 ≡ weigh w u) ⊎ ((x : ℕ) × Edge (as_model g) x u × (get_or (set s u y) u 0 ≡ get_or (set s u y) x 0 + weigh w u))
          by (inl z) = inl (omega (arith, here))
          by (inr r) = inr (r.0, r.1, omega (arith, here, r.3, same r.0 r.1))

      sum : EndingAt (as_model g) (weigh w) u (get_or (set s u y) u 0)
      unfolding as_model
      sum = go (cases (get_or t u false))
        where
          go : (get_or t u false ≡ true) ⊎ (get_or t u false ≡ false) → EndingAt (as_model g) (weigh w) u (get_or (set s u y) u 0)
          go (inr z) = let q : y ≡ get_or s u 0 = rw z at is in rw (here ∙ q) (F.kept u known z)
          go (inl z) = made (so_far z) (rw z at is)

      pub forward_long : length (set s u y) ≡ 128
      forward_long = length-set s u y ∙ F.size

      module _ (s' : List ℕ) (D : Told e st (λ x. y) u (many st u) (set s u y) s') where
        early : (v : ℕ) → place T v ≤ j → get_or s' v 0 ≡ get_or (set s u y) v 0
        early v h = told-apart T known D v (λ d. omega (arith, rises T u v d, place_at T j l))

        over : (v : ℕ) → v < g.n → place T v < j + 1 → Dec (place T v ≡ j) → EndingAt (as_model g) (weigh w) v (get_or s' v 0)
        over v m h (yes q) = let z : v ≡ u = sym (vertex-at T v m) ∙ ap (λ (i : ℕ). get_or o i 0) q in rw (early v (omega arith), z) sum
        over v m h (no q) = rw (early v (omega arith) ∙ there v (other v q)) (F.done v m (omega arith))

        -- an edge raises no sum that is known already
        same : (v : ℕ) → v < g.n → get_or t v false ≡ false → j < place T v → get_or s' v 0 ≡ get_or s v 0
        unfolding as_model
        same v m z h = go (cases ((as_model g).edge u v))
          where
            apart : get_or (set s u y) v 0 ≡ get_or s v 0
            apart = there v (other v (λ q. omega arith))

            go : ((as_model g).edge u v ≡ true) ⊎ ((as_model g).edge u v ≡ false) → get_or s' v 0 ≡ get_or s v 0
            go (inl d) = omega (arith, told_raised T known D v d, apart, here, ending-edge d sum (F.kept v m z))
            go (inr d) = told-apart T known D v (λ q. clash q d) ∙ apart

        pub forward_more : Forward s' (j + 1)
        unfolding as_model
        forward_more = record {
          size = D.size;
          done = λ v m h. over v m h (ℕ_discrete (place T v) j);
          kept = λ v m z. kept v m z (le-or-lt (place T v) j);
          told = told;
          past = λ v h. told-apart T known D v (λ d. omega (arith, (well_formed T).to u v d)) ∙ (there v (λ q. omega (arith, known)) ∙ F.past v h);
        }
          where
            kept : (v : ℕ) → v < g.n → get_or t v false ≡ false → (place T v ≤ j) ⊎ (j < place T v) → EndingAt (as_model g) (weigh w) v (get_or s' v 0)
            kept v m z (inl h) = over v m (omega arith) (ℕ_discrete (place T v) j)
            kept v m z (inr h) = rw (same v m z h) (F.kept v m z)

            told : (v : ℕ) → v < g.n → get_or t v false ≡ true → j + 1 ≤ place T v → SoFar s' (j + 1) v
            told v m z h =
                let r : List ℕ = set s u y in
                let D' : Told e st (λ x. get_or r u 0) u (many st u) r s' = record { size = D.size; at = λ x. rw here (D.at x) } in
                raised_alike T (λ x z. get_or r x 0) (λ z. 0) (λ x z. get_or s' x 0) s' s' (j + 1) v refl (λ x k. sym (early x (omega arith)))
                (raised_more T (λ x z. get_or r x 0) (λ z. 0) r s' j l D' v
                (raised_alike T (λ x z. get_or s x 0) (λ z. 0) (λ x z. get_or r x 0) s r j v (sym (there v (other v (λ z. omega arith))))
                (λ x k. sym (there x (other x (λ z. omega arith)))) (F.told v m z (omega arith))))

  pub forward_done : (s : List ℕ) → Forward s n → Ends (as_model g) (weigh w) s
  unfolding as_model
  forward_done s F = record { size = F.size; ending = λ v l. F.done v l (place-below T v l); past = F.past }
