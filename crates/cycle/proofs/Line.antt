-- The line goes on: with those at first that nobody leads to, and then with who comes free by what another tells.
use mathlib.Core.Path.{◌≡◌, refl, sym, ap, ap₂, ◌∙◌}
use mathlib.Core.Logic.{⊎_elim}
use mathlib.Core.List.{List}
use mathlib.Core.Bool.{Bool, true, false, not, ◌&&◌, ◌||◌, and-false}
use Prim.Native.Nat.{ℕ, suc, ◌+◌, ◌≤◌, ◌<◌}
use native.Mathlib.Omega.{arith}
use native.Mathlib.Decide.{ℕ_discrete}
use lib.Dec.{eqb, ltb}
use lib.ListN.{get_or, set, length, length-set, get_or-eq_default}
use borrow.Author.Tests.{eq-eqb, ne_eqb, eqb-true, lt-ltb, le-ltb, ltb-true, not-false}
use Rattle.model.specs.Places.{bit, count, any, table}
use Rattle.model.proofs.Bools.{clash, le-or-lt, both, left-of, right_of, not-true, bit-one, bit-zero}
use Rattle.model.proofs.Places.{count-more, count-all, count-some, count_split, count-up, count-there, count-apart, none-counted, some-counted, any-more, any_ext, any_elim, any_intro, any_none}
use Rattle.model.proofs.Tables.{table-length, table_at}
use Rattle.model.proofs.Turns.{count_past}
use Rattle.starts.specs.Starts.{comes_from, leads_to, start_in, Rows}
use Rattle.waiting.specs.Waiting.{entering, leading}
use Rattle.waiting.proofs.Rows.{split, rows-together, enter_known}
use Rattle.waiting.proofs.Numbers.{entering_ext}
use Rattle.cycle.specs.Line.{free, due, times, untold, Unled, Told, Line}
use Rattle.cycle.proofs.Telling.{times_none, times_more}

-- ---- lists in which each number for which p holds stands once, and no other

is_set : (b : Bool) (x : ℕ) → x ≡ bit b → 0 < x → b ≡ true
is_set true x e h = refl
is_set false x e h = absurd (omega arith)

module _ (o : List ℕ) (k : ℕ) (p : ℕ → Bool) (once : (v : ℕ) → times o k v ≡ bit (p v)) where
  stands-in : (j : ℕ) → j < k → p (get_or o j 0) ≡ true
  unfolding times
  stands-in j h =
      let v = get_or o j 0 in
      is_set (p v) (times o k v) (once v) (count-some (λ j. eqb v (get_or o j 0)) k j h (eq-eqb v v refl))

  pub stands_at : (v : ℕ) → p v ≡ true → (j : ℕ) × (j < k) × (get_or o j 0 ≡ v)
  unfolding times
  stands_at v t =
      let r = some-counted (λ j. eqb v (get_or o j 0)) k (omega (arith, once v, bit-one (p v) t)) in
      (r.0, r.1, sym (eqb-true v (get_or o r.0 0) r.2))

  pub stands-once : (i j : ℕ) → i < k → j < k → get_or o i 0 ≡ get_or o j 0 → i ≡ j
  unfolding times
  stands-once i j a b e =
      let v = get_or o i 0 in
      let q : ℕ → Bool = λ j. eqb v (get_or o j 0) in
      let x = eq-eqb v (get_or o i 0) refl in
      let y = eq-eqb v (get_or o j 0) e in
      let m = once v ∙ bit-one (p v) (stands-in i a) in
      count-apart q i j x y (omega (arith, m, count-there q i x, count-up q (suc i) k a, count-there q j y, count-up q (suc j) k b))

  -- among the places before its own a number does not stand
  stands-not : (j : ℕ) → j < k → untold o j (get_or o j 0) ≡ true
  unfolding untold
  stands-not j h = ap not (any_none (λ i. eqb (get_or o j 0) (get_or o i 0)) j (λ i b. ne_eqb (get_or o j 0) (get_or o i 0) (λ e. omega (arith, stands-once j i h (omega arith) e))))

  -- among all of them it does where p holds
  pub told_of : (v : ℕ) → p v ≡ true → untold o k v ≡ false
  unfolding untold
  told_of v t = let r = stands_at v t in ap not (any_intro (λ j. eqb v (get_or o j 0)) k r.0 r.1 (eq-eqb v (get_or o r.0 0) (sym r.2)))

-- where a number stands that has told
told_at : (o : List ℕ) (k v : ℕ) → untold o k v ≡ false → (d : ℕ) × (d < k) × (get_or o d 0 ≡ v)
unfolding untold
told_at o k v f =
    let r = any_elim (λ d. eqb v (get_or o d 0)) k (not-false (any (λ d. eqb v (get_or o d 0)) k) f) in
    (r.0, r.1, sym (eqb-true v (get_or o r.0 0) r.2))

due-known : (n : ℕ) (w : List ℕ) (v : ℕ) → due n w v ≡ true → v < n
due-known n w v t = ltb-true v n (left-of (ltb v n) (free w v) t)

due-free : (n : ℕ) (w : List ℕ) (v : ℕ) → due n w v ≡ true → get_or w v 0 ≡ 0
due-free n w v t = eqb-true (get_or w v 0) 0 (right_of (ltb v n) (free w v) t)

-- ---- who nobody leads to

below_next : (x v : ℕ) → (x ≡ v → ⊥) → ltb x (v + 1) ≡ ltb x v
below_next x v e = ⊎_elim (λ (h : v ≤ x). le-ltb x (v + 1) (omega arith) ∙ sym (le-ltb x v h)) (λ (h : x < v). lt-ltb x (v + 1) (omega arith) ∙ sym (lt-ltb x v h)) (le-or-lt v x)

pub unled-none : (w o : List ℕ) → length o ≡ 128 → Unled w 0 o 0
unfolding count
unled-none w o e = record { size = e; all = refl; once = λ v. times_none o v ∙ sym (bit-zero (ltb v 0 && free w v) (ap (λ (b : Bool). b && free w v) (le-ltb v 0 (omega arith)))) }

module _ (w : List ℕ) (v : ℕ) (o : List ℕ) (k : ℕ) (U : Unled w v o k) where
  pub unled-free : k < 128 → get_or w v 0 ≡ 0 → Unled w (v + 1) (set o k v) (k + 1)
  unled-free h e = record {
    size = length-set o k v ∙ U.size;
    all = omega (arith, U.all, count-more (free w) v, bit-one (free w v) is);
    once = λ x. times_more o k v x (omega (arith, U.size)) ∙ ap (λ (y : ℕ). y + bit (eqb x v)) (U.once x) ∙ at x (ℕ_discrete x v);
  }
    where
      is : free w v ≡ true
      is = eq-eqb (get_or w v 0) 0 e

      at : (x : ℕ) → Dec (x ≡ v) → bit (due v w x) + bit (eqb x v) ≡ bit (due (v + 1) w x)
      at x (yes q) = rw (q, is, le-ltb v v (omega arith), lt-ltb v (v + 1) (omega arith), eq-eqb v v refl) refl
      at x (no q) = rw (ne_eqb x v q, below_next x v q) (omega arith)

  pub unled-held : (get_or w v 0 ≡ 0 → ⊥) → Unled w (v + 1) o k
  unled-held e = record {
    size = U.size;
    all = omega (arith, U.all, count-more (free w) v, bit-zero (free w v) is);
    once = λ x. U.once x ∙ at x (ℕ_discrete x v);
  }
    where
      is : free w v ≡ false
      is = ne_eqb (get_or w v 0) 0 e

      at : (x : ℕ) → Dec (x ≡ v) → bit (due v w x) ≡ bit (due (v + 1) w x)
      at x (yes q) = rw (q, is) (ap bit (and-false (ltb v v) ∙ sym (and-false (ltb v (v + 1)))))
      at x (no q) = rw (below_next x v q) refl

-- ---- the line

module _ {l : List ℕ} {m n : ℕ} {starts : List ℕ} (R : Rows l m n starts) where
  -- a number that is 0 counts no edge
  edge-told : (p : ℕ → Bool) (i : ℕ) → i < m → entering l p m (leads_to l i) ≡ 0 → p (comes_from l i) ≡ false
  unfolding entering
  edge-told p i h z =
      not-true (p (comes_from l i))
      (λ t. clash (both (p (comes_from l i)) (eqb (leads_to l i) (leads_to l i)) t (eq-eqb (leads_to l i) (leads_to l i) refl)) (none-counted (λ j. p (comes_from l j) && eqb (leads_to l j) (leads_to l i)) m z i h))

  -- at first each edge counts
  pub line-begins : (w o : List ℕ) (k : ℕ) → w ≡ table (entering l (λ u. true) m) 128 → Unled w n o k → Line l m n w o 0 k
  unfolding untold any
  line-begins w o k e U = record {
    long = ap (λ (x : List ℕ). length x) e ∙ table-length (entering l (λ u. true) m) 128;
    size = U.size;
    ahead = omega arith;
    counts = at;
    once = U.once;
    rest = omega (arith, U.all, count_past (λ v. not (free w v)) n 128 R.few_vertices (λ v a b. ap not (past v a b)), count_split (λ v. true) (free w) (λ v. not (free w v)) n (λ v b. one_of (free w v)), count-all (λ v. true) n (λ v b. refl));
    earlier = λ i j h b q. absurd (clash refl (edge-told (λ u. true) i h (sym (at (leads_to l i) (omega (arith, R.to_known i h, R.few_vertices))) ∙ none i j b q)));
  }
    where
      at : (v : ℕ) → v < 128 → get_or w v 0 ≡ entering l (λ u. true) m v
      at v h = ap (λ (x : List ℕ). get_or x v 0) e ∙ table_at (entering l (λ u. true) m) 128 v h

      past : (v : ℕ) → n ≤ v → v < 128 → free w v ≡ true
      past v a b = eq-eqb (get_or w v 0) 0 (at v b ∙ enter_known R (λ u. true) v a)

      none : (i j : ℕ) → j < k → get_or o j 0 ≡ leads_to l i → get_or w (leads_to l i) 0 ≡ 0
      none i j b q = rw (← q) (due-free n w (get_or o j 0) (stands-in o k (due n w) U.once j b))

      one_of : (b : Bool) → bit true ≡ bit b + bit (not b)
      one_of true = refl
      one_of false = refl

  module _ {w o : List ℕ} {told k : ℕ} (L : Line l m n w o told k) where
    -- who stands in the line is one of the vertices, and waits for nobody
    pub line_known : (j : ℕ) → j < k → get_or o j 0 < n
    line_known j h = due-known n w (get_or o j 0) (stands-in o k (due n w) L.once j h)

    -- who waits is one of them
    pub waits-known : (v : ℕ) → n ≤ v → free w v ≡ true
    waits-known v h =
        eq-eqb (get_or w v 0) 0
        (⊎_elim (λ (b : 128 ≤ v). get_or-eq_default w 0 (rw L.long b)) (λ (b : v < 128). L.counts v b ∙ enter_known R (untold o told) v h) (le-or-lt 128 v))

    module _ (more : told < k) where
      abbrev u : ℕ
      u = get_or o told 0

      halves : (v : ℕ) → v < 128 → get_or w v 0 ≡ entering l (λ x. untold o told x && not (eqb x u)) m v + leading l (start_in l m u) (start_in l m (u + 1)) v
      halves v h = L.counts v h ∙ split l m (rows-together R) (untold o told) u v (stands-not o k (due n w) L.once told more)

      -- what u has to tell is counted
      pub line-enough : (v : ℕ) → v < 128 → leading l (start_in l m u) (start_in l m (u + 1)) v ≤ get_or w v 0
      line-enough v h = omega (arith, halves v h)

      module _ {w' o' : List ℕ} {k' : ℕ} (T : Told l (start_in l m u) (start_in l m (u + 1)) w o k w' o' k') where
        -- then u has told its successors too
        told-too : (x : ℕ) → untold o' (told + 1) x ≡ untold o told x && not (eqb x u)
        unfolding untold
        told-too x =
            ap not (any-more (λ j. eqb x (get_or o' j 0)) told)
            ∙ neither (any (λ j. eqb x (get_or o' j 0)) told) (eqb x (get_or o' told 0))
            ∙ ap₂ (λ (a b : Bool). not a && not b) (any_ext (λ j. eqb x (get_or o' j 0)) (λ j. eqb x (get_or o j 0)) told (λ j b. ap (λ (y : ℕ). eqb x y) (T.kept j (omega arith)))) (ap (λ (y : ℕ). eqb x y) (T.kept told more))
          where
            neither : (a b : Bool) → not (a || b) ≡ not a && not b
            neither true b = refl
            neither false b = refl

        counts : (v : ℕ) → v < 128 → get_or w' v 0 ≡ entering l (untold o' (told + 1)) m v
        counts v h = omega (arith, T.less v, halves v h, entering_ext l (untold o' (told + 1)) (λ x. untold o told x && not (eqb x u)) m v told-too)

        once : (v : ℕ) → times o' k' v ≡ bit (due n w' v)
        once v = T.once v ∙ ap (λ (x : ℕ). x + bit (not (free w v) && free w' v)) (L.once v) ∙ ⊎_elim past within (le-or-lt n v)
          where
            grows : (a b : Bool) → (a ≡ true → b ≡ true) → bit a + bit (not a && b) ≡ bit b
            grows true b h = rw (h refl) refl
            grows false b h = omega arith

            stays : free w v ≡ true → free w' v ≡ true
            stays t = eq-eqb (get_or w' v 0) 0 (omega (arith, T.less v, eqb-true (get_or w v 0) 0 t))

            within : v < n → bit (due n w v) + bit (not (free w v) && free w' v) ≡ bit (due n w' v)
            within h = rw (lt-ltb v n h) (grows (free w v) (free w' v) stays)

            past : n ≤ v → bit (due n w v) + bit (not (free w v) && free w' v) ≡ bit (due n w' v)
            past h = rw (le-ltb v n h, waits-known v h) refl

        pub line-goes-on : Line l m n w' o' (told + 1) k'
        line-goes-on = record {
          long = T.long;
          size = T.size;
          ahead = omega (arith, T.more);
          counts = counts;
          once = once;
          rest = T.rest ∙ L.rest;
          earlier = λ i j h b e. ⊎_elim (λ (c : k ≤ j). came i j h b c e) (λ (c : j < k). stood i j h c e) (le-or-lt k j);
        }
          where
            stood : (i j : ℕ) → i < m → j < k → get_or o' j 0 ≡ leads_to l i → (d : ℕ) × (d < j) × (get_or o' d 0 ≡ comes_from l i)
            stood i j h c e = let r = L.earlier i j h c (sym (T.kept j c) ∙ e) in (r.0, r.1, T.kept r.0 (omega (arith, r.1)) ∙ r.2)

            -- who came free just now waits for nobody: all who lead to it have told it, and stood in the line before
            came : (i j : ℕ) → i < m → j < k' → k ≤ j → get_or o' j 0 ≡ leads_to l i → (d : ℕ) × (d < j) × (get_or o' d 0 ≡ comes_from l i)
            came i j h b c e =
                let v = leads_to l i in
                let z : get_or w' v 0 ≡ 0 = rw (← e) (due-free n w' (get_or o' j 0) (stands-in o' k' (due n w') once j b)) in
                let f = edge-told (untold o' (told + 1)) i h (sym (counts v (omega (arith, R.to_known i h, R.few_vertices))) ∙ z) in
                let r = told_at o' (told + 1) (comes_from l i) f in
                (r.0, omega (arith, r.1), r.2)
