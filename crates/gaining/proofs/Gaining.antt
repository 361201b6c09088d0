-- What the code finds for each vertex is its gain. A vertex's part of the volume is what its scaled weight leaves of its WCET in parts.
use mathlib.Core.Path.{◌≡◌, refl, sym, ap, ◌∙◌}
use mathlib.Core.Bool.{Bool, true, false}
use mathlib.Core.List.{List}
use mathlib.Core.Logic.{◌⊎◌, inl, inr}
use Prim.Native.Nat.{ℕ, ◌+◌, ◌-◌, ◌*◌, ◌≤◌, ◌<◌, max}
use native.Mathlib.Omega.{arith}
use native.Mathlib.Decide.{ℕ_discrete}
use lib.Dec.{eqb}
use lib.ListN.{get_or, length, set, length-set}
use lib.Seq.{get_or-set_same, get_or-set_other}
use Rattle.model.specs.Places.{pick, along, largest}
use Rattle.model.specs.Path.{Greatest}
use Rattle.model.specs.Bounds.{PARTS, scaled}
use Rattle.model.specs.Gain.{GainOf}
use Rattle.model.proofs.Bools.{le-or-lt}
use Rattle.model.proofs.Sums.{largest-more}
use Rattle.model.proofs.Joined.{without}
use Rattle.model.proofs.Summaries.{ending-own, starting-own}
use Rattle.model.proofs.Gains.{share_of, share-and-scaled, greatest_falls, gain_law}
use Rattle.graph.specs.Model.{as_model}
use Rattle.graph.specs.declared.Graph.{Graph}
use Rattle.paths.specs.Ahead.{weigh, Weighed}
use Rattle.paths.proofs.Complete.{greatest_same}
use Rattle.summary.specs.Row.{many, nth, Told}
use Rattle.summary.specs.declared.Summary.{Summary}
use Rattle.summary.proofs.Along.{well_formed, few, vertex, place, place-below, place_at, vertex-at, nth-joins, rises, ending-small, starting-small}
use Rattle.summary.proofs.Raised.{raised_none, raised_more}
use Rattle.gaining.specs.Passing.{at, onward, TopFrom, Led}
use Rattle.gaining.specs.Gaining.{left_by, gain_by, Fitting, Gainable, GainsIn}
use Rattle.gaining.specs.declared.passing.Top.{Top}
use Rattle.gaining.proofs.Tops.{top-led}
use Rattle.gaining.proofs.Lefts.{Best, len_greatest, left_greatest}

-- weights that are the same stay so without that of a vertex
without-same : (b : Bool) (x y : ℕ) → x ≡ y → pick b 0 x ≡ pick b 0 y
without-same true x y q = refl
without-same false x y q = q

module _ {g : Graph} {e st o : List ℕ} {n : ℕ} {w c : List ℕ} {r : Summary} (M : Gainable g e st o n w c r) where
  abbrev T : Weighed g e st o n w
  T = M.weighed

  abbrev E : ℕ → ℕ
  E v = get_or r.ending v 0

  abbrev B : ℕ → ℕ
  B v = get_or r.starting v 0

  small_ending : (v : ℕ) → (g.n ≤ v) ⊎ (v < g.n) → E v ≤ 92252160000000
  unfolding as_model
  small_ending v (inl l) = omega (arith, M.summed.ending_past v l)
  small_ending v (inr l) = ending-small T (M.summed.sums.ending v l)

  small_starting : (v : ℕ) → (g.n ≤ v) ⊎ (v < g.n) → B v ≤ 92252160000000
  unfolding as_model
  small_starting v (inl l) = omega (arith, M.summed.starting_past v l)
  small_starting v (inr l) = starting-small T (M.summed.sums.starting v l)

  pub ends-small : (v : ℕ) → E v ≤ 92252160000000
  ends-small v = small_ending v (le-or-lt g.n v)

  pub starts-small : (v : ℕ) → B v ≤ 92252160000000
  starts-small v = small_starting v (le-or-lt g.n v)

  -- what the pass has at place p: what passes it, the gains of the vertices before it, and the sums that end at the others
  pub record Swept (p : ℕ) (s : List ℕ) (t : Top) (x : ℕ) (l : List ℕ) : Type 0 where
    pub size : length s ≡ 128
    pub best : (v : ℕ) → v < g.n → Best T r M.summed s p v
    pub top : TopFrom o s n p t
    pub ended : x ≡ largest (at o r.ending) p
    pub long : length l ≡ 128
    pub sums : (v : ℕ) → v < g.n → p ≤ place T v → get_or l v 0 ≡ E v
    pub gain : (v : ℕ) → v < g.n → place T v < p → GainOf (as_model g) v (get_or l v 0)
    pub past : (v : ℕ) → n ≤ v → get_or l v 0 ≡ 0

  pub swept_none : (t : Top) → TopFrom o r.starting n 0 t → Swept 0 r.starting t 0 r.ending
  unfolding largest as_model
  swept_none t F = record {
    size = M.summed.starting_size;
    best = λ v l. raised_none T _ _ r.starting v refl;
    top = F;
    ended = refl;
    long = M.summed.ending_size;
    sums = λ v l h. refl;
    gain = λ v l h. absurd (omega arith);
    past = λ v h. M.summed.ending_past v (omega (arith, T.vertices));
  }

  -- the sum that ends at the vertex whose turn it is
  pub swept_sum : (p : ℕ) → p < n → (s : List ℕ) (t : Top) (x : ℕ) (l : List ℕ) → Swept p s t x l → get_or l (get_or o p 0) 0 ≡ E (get_or o p 0)
  swept_sum p h s t x l D = D.sums (get_or o p 0) (vertex T p h) (omega (arith, place_at T p h))

  -- t₀ is the largest sum that starts anywhere, and t' the largest past place p
  module _ (t₀ : Top) (L : TopFrom o r.starting n 0 t₀) (p : ℕ) (h : p < n) (s : List ℕ) (t : Top) (x : ℕ) (l : List ℕ) (D : Swept p s t x l) (t' : Top)
      (N : TopFrom o s n (p + 1) t') where
    abbrev u : ℕ
    u = get_or o p 0

    known : u < g.n
    known = vertex T p h

    abbrev left : ℕ
    left = left_by (max t'.most x) (E u) (B u) (weigh w u)

    len_is : Greatest (as_model g) (along (weigh w)) t₀.most
    len_is = len_greatest T r M.summed t₀ L

    left_is : Greatest (as_model g) (along (without (weigh w) u)) left
    left_is =
        let q = place_at T p h in
        rw D.ended (rw q at (left_greatest T r M.summed u known s (rw q D.best) t' (rw q N)))

    wcet : get_or c u 0 ≡ (as_model g).wcet u
    unfolding as_model
    wcet = ap (λ (y : List ℕ). get_or y u 0) M.wcets

    parts : weigh w u + share_of (as_model g) u ≡ get_or c u 0 * PARTS
    parts = rw (M.scaled_weights u known, wcet) (share-and-scaled (as_model g) u)

    pub fits : Fitting t₀.most (max t'.most x) (E u) (B u) (weigh w u) (get_or c u 0)
    unfolding as_model
    fits = record {
      whole = whole L.is;
      left = greatest_falls (weigh w) u len_is left_is;
      small_ending = ends-small u;
      small_starting = starts-small u;
      own_ending = ending-own (M.summed.sums.ending u known);
      own_starting = starting-own (M.summed.sums.starting u known);
      short = omega (arith, wcet, T.rows.accepted.short u known);
      own_part = omega (arith, parts);
    }
      where
        whole : (t₀.most ≡ 0) ⊎ ((q : ℕ) × (0 ≤ q) × (q < n) × (t₀.vertex ≡ get_or o q 0) × (t₀.most ≡ at o r.starting q))
            → t₀.most ≤ 92252160000000
        whole (inl z) = omega arith
        whole (inr y) = omega (arith, y.4, starts-small (get_or o y.0 0))

    abbrev found : ℕ
    found = gain_by t₀.most (max t'.most x) (E u) (B u) (weigh w u) (get_or c u 0)

    -- THEOREM. It is the gain.
    gain-found : GainOf (as_model g) u found
    unfolding as_model
    gain-found =
        let z : found ≡ t₀.most - left + share_of (as_model g) u = ap (λ (y : ℕ). t₀.most - left + y) (omega (arith, parts)) in
        rw z
        (gain_law (well_formed T) u known (greatest_same (well_formed T) (weigh w) (scaled (as_model g)) M.scaled_weights len_is)
        (greatest_same (well_formed T) (without (weigh w) u) (without (scaled (as_model g)) u)
        (λ v k. without-same (eqb v u) (weigh w v) (scaled (as_model g) v) (M.scaled_weights v k)) left_is))

    module _ (s' : List ℕ) (C : Told e st (onward r.starting (E u)) u (many st u) s s') (t'' : Top)
        (H : Led e st (onward r.starting (E u)) u (many st u) t' t'') (x' : ℕ) (ends : x' ≡ max x (E u)) (y : ℕ) (is : y ≡ found) where
      pub swept_more : Swept (p + 1) s' t'' x' (set l u y)
      unfolding as_model
      swept_more = record {
        size = C.size;
        best = λ v k. raised_more T _ _ s s' p h C v (D.best v k);
        top = top-led e st (onward r.starting (E u)) u o s s' n (p + 1) (many st u) t' t'' later N C H;
        ended = ends ∙ (ap (λ (i : ℕ). max i (E u)) D.ended ∙ sym (largest-more (at o r.ending) p));
        long = length-set l u y ∙ D.long;
        sums = λ v k a. get_or-set_other l u v y 0 (λ z. omega (arith, ap (place T) z, place_at T p h)) ∙ D.sums v k (omega arith);
        gain = λ v k a. gain v k a (ℕ_discrete v u);
        past = λ v k. get_or-set_other l u v y 0 (λ z. omega (arith, known, T.vertices)) ∙ D.past v k;
      }
        where
          later : (j : ℕ) → j < many st u → (q : ℕ) × (p + 1 ≤ q) × (q < n) × (nth e st u j ≡ get_or o q 0)
          later j k =
              let v = nth e st u j in
              let d = nth-joins T u j known k in
              let m = (well_formed T).to u v d in
              (place T v, omega (arith, rises T u v d, place_at T p h), place-below T v m, sym (vertex-at T v m))

          gain : (v : ℕ) → v < g.n → place T v < p + 1 → Dec (v ≡ u) → GainOf (as_model g) v (get_or (set l u y) v 0)
          gain v k a (yes z) = rw z (rw (get_or-set_same l u y 0 (omega (arith, D.long, known, few T)) ∙ is) gain-found)
          gain v k a (no z) = rw (get_or-set_other l u v y 0 z) (D.gain v k (before (ℕ_discrete (place T v) p)))
            where
              before : Dec (place T v ≡ p) → place T v < p
              before (yes i) = absurd (z (sym (vertex-at T v k) ∙ ap (λ (j : ℕ). get_or o j 0) i))
              before (no i) = omega arith

  pub swept_done : (s : List ℕ) (t : Top) (x : ℕ) (l : List ℕ) → Swept n s t x l → GainsIn (as_model g) l
  unfolding as_model
  swept_done s t x l D = record {
    size = D.long;
    gain = λ v k. D.gain v k (place-below T v k);
    past = λ v k. D.past v (omega (arith, T.vertices));
  }
