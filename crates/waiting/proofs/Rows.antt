-- An edge list in rows: the edges of a vertex stand together, from its start up to the next one's. What the rows of predecessors count is
-- what the edges do.
use mathlib.Core.Path.{◌≡◌, refl, sym, ap, ◌∙◌}
use mathlib.Core.Logic.{◌⊎◌, inl, inr, ⊎_elim}
use mathlib.Core.List.{List}
use mathlib.Core.Bool.{Bool, true, false, not, ◌&&◌, and-true, and-false}
use Prim.Native.Nat.{ℕ, ◌+◌, ◌-◌, ◌≤◌, ◌<◌}
use native.Mathlib.Omega.{arith}
use lib.Dec.{eqb, ltb, leb}
use lib.ListN.{get_or, length}
use borrow.Author.Tests.{lt-ltb, le-ltb, ltb-true, le-leb, leb-true, leb-false, eq-eqb, ne_eqb, eqb-true}
use Rattle.model.specs.Places.{bit, count, table, padded}
use Rattle.model.proofs.Bools.{clash, le-or-lt, both, left-of, right_of, same_test}
use Rattle.model.proofs.Places.{first_below, first-here, count_ext, count_none, count_split}
use Rattle.model.proofs.Tables.{table_at, padded-length, padded-at, padded-past}
use Rattle.model.proofs.Turns.{count_past, as_table}
use Rattle.starts.specs.Starts.{comes_from, leads_to, not_below, start_in, Rows}
use Rattle.starts.proofs.Together.{start-in}
use Rattle.vset.specs.Members.{is_in}
use Rattle.sets.specs.Sets.{row_of, Holds}
use Rattle.rows.specs.Rows.{predecessor, ones_among}
use Rattle.rows.proofs.Ones.{edges_rise, ones-entering, all_ones}
use Rattle.waiting.specs.Waiting.{entering, leading, edges_by}

-- one test splits another by u
by_one : (a e c : Bool) → (e ≡ true → a ≡ true) → bit (a && c) ≡ bit ((a && not e) && c) + bit (e && c)
by_one true true c h = omega arith
by_one true false c h = omega arith
by_one false true c h = absurd (clash (h refl) refl)
by_one false false c h = refl

pub start-listed : (l : List ℕ) (m : ℕ) (starts : List ℕ) → starts ≡ table (start_in l m) 129 → (u : ℕ) → u < 129 → get_or starts u 0 ≡ start_in l m u
start-listed l m starts e u h = ap (λ (x : List ℕ). get_or x u 0) e ∙ table_at (start_in l m) 129 u h

-- ---- edges that ascend by the vertex that they come from

module _ (l : List ℕ) (m : ℕ) (together : (i j : ℕ) → i ≤ j → j < m → comes_from l i ≤ comes_from l j) where
  abbrev start : ℕ → ℕ
  start u = start_in l m u

  -- the edges of u stand between its start and that of u + 1
  pub between : (u i : ℕ) → i < m → leb (start u) i && ltb i (start (u + 1)) ≡ eqb (comes_from l i) u
  unfolding start_in
  between u i h = same_test (leb (start u) i && ltb i (start (u + 1))) (eqb (comes_from l i) u) to from
    where
      to : leb (start u) i && ltb i (start (u + 1)) ≡ true → eqb (comes_from l i) u ≡ true
      to t =
          let a = leb-true (start u) i (left-of (leb (start u) i) (ltb i (start (u + 1))) t) in
          let b = ltb-true i (start (u + 1)) (right_of (leb (start u) i) (ltb i (start (u + 1))) t) in
          let x = leb-true u (comes_from l (start u)) (first-here (not_below l u) m (omega (arith, a, h))) in
          let y = together (start u) i a h in
          let z = leb-false (u + 1) (comes_from l i) (first_below (not_below l (u + 1)) m i b) in
          eq-eqb (comes_from l i) u (omega (arith, x, y, z))

      from : eqb (comes_from l i) u ≡ true → leb (start u) i && ltb i (start (u + 1)) ≡ true
      from t =
          let e = eqb-true (comes_from l i) u t in
          both (leb (start u) i) (ltb i (start (u + 1)))
          (le-leb (start u) i (⊎_elim (λ k. k) (λ (k : i < start u). absurd (omega (arith, e, leb-false u (comes_from l i) (first_below (not_below l u) m i k)))) (le-or-lt (start u) i)))
          (lt-ltb i (start (u + 1)) (⊎_elim (λ (k : start (u + 1) ≤ i).
          absurd (omega (arith, e, leb-true (u + 1) (comes_from l (start (u + 1))) (first-here (not_below l (u + 1)) m (omega (arith, k, h))), together (start (u + 1)) i k h)))
          (λ k. k) (le-or-lt (start (u + 1)) i)))

  -- without u, as many fewer as its edges are
  pub split : (p : ℕ → Bool) (u v : ℕ) → p u ≡ true → entering l p m v ≡ entering l (λ w. p w && not (eqb w u)) m v + leading l (start u) (start (u + 1)) v
  unfolding entering leading
  split p u v t =
      count_split (λ i. p (comes_from l i) && eqb (leads_to l i) v) (λ i. (p (comes_from l i) && not (eqb (comes_from l i) u)) && eqb (leads_to l i) v) inside m
      (λ i h. rw (between u i h) (by_one (p (comes_from l i)) (eqb (comes_from l i) u) (eqb (leads_to l i) v) (λ q. ap p (eqb-true (comes_from l i) u q) ∙ t)))
      ∙ ap (λ (x : ℕ). count (λ i. (p (comes_from l i) && not (eqb (comes_from l i) u)) && eqb (leads_to l i) v) m + x) cut
    where
      inside : ℕ → Bool
      inside i = (leb (start u) i && ltb i (start (u + 1))) && eqb (leads_to l i) v

      cut : count inside m ≡ count (λ i. leb (start u) i && eqb (leads_to l i) v) (start (u + 1))
      cut =
          count_past inside (start (u + 1)) m (start-in l m (u + 1))
          (λ i a b. ap (λ (x : Bool). (leb (start u) i && x) && eqb (leads_to l i) v) (le-ltb i (start (u + 1)) a) ∙ ap (λ (x : Bool). x && eqb (leads_to l i) v) (and-false (leb (start u) i)))
          ∙ count_ext inside (λ i. leb (start u) i && eqb (leads_to l i) v) (start (u + 1))
          (λ i a. ap (λ (x : Bool). (leb (start u) i && x) && eqb (leads_to l i) v) (lt-ltb i (start (u + 1)) a) ∙ ap (λ (x : Bool). x && eqb (leads_to l i) v) (and-true (leb (start u) i)))

-- ---- rows

module _ {l : List ℕ} {m n : ℕ} {starts : List ℕ} (R : Rows l m n starts) where
  pub rows-together : (i j : ℕ) → i ≤ j → j < m → comes_from l i ≤ comes_from l j
  rows-together i j h k =
      let e : i + (j - i) ≡ j = omega arith in
      omega (arith, rw e at (edges_rise R i (j - i) (omega arith)))

  -- every edge comes from below 128
  pub all_edges : edges_by starts ≡ m
  unfolding start_in
  all_edges =
      start-listed l m starts R.begin 128 (omega arith)
      ∙ ⊎_elim
      (λ (h : m ≤ start_in l m 128). omega (arith, h, start-in l m 128))
      (λ (h : start_in l m 128 < m). absurd (omega (arith, R.from_known (start_in l m 128) h, R.few_vertices, leb-true 128 (comes_from l (start_in l m 128)) (first-here (not_below l 128) m h))))
      (le-or-lt m (start_in l m 128))

  -- no edge leads to a number from n on
  pub enter_known : (p : ℕ → Bool) (v : ℕ) → n ≤ v → entering l p m v ≡ 0
  unfolding entering
  enter_known p v h =
      count_none (λ i. p (comes_from l i) && eqb (leads_to l i) v) m
      (λ i b. ap (λ (x : Bool). p (comes_from l i) && x) (ne_eqb (leads_to l i) v (λ e. omega (arith, R.to_known i b))) ∙ and-false (p (comes_from l i)))

  -- the ones of the rows are the edges
  pub ones-count : (p : List (List ℕ)) (w : List ℕ) → Holds p (predecessor l m) → w ≡ padded 128 (ones_among p) n → w ≡ table (entering l (λ u. true) m) 128
  unfolding entering
  ones-count p w H e =
      as_table (entering l (λ u. true) m) 128 w (ap (λ (x : List ℕ). length x) e ∙ padded-length 128 (ones_among p) n R.few_vertices)
      (λ v h. ap (λ (x : List ℕ). get_or x v 0) e ∙ at v h (le-or-lt n v))
    where
      at : (v : ℕ) → v < 128 → (n ≤ v) ⊎ (v < n) → get_or (padded 128 (ones_among p) n) v 0 ≡ entering l (λ u. true) m v
      at v h (inl k) = padded-past 128 (ones_among p) n v k ∙ sym (enter_known (λ u. true) v k)
      at v h (inr k) = padded-at 128 (ones_among p) n v k ∙ all_ones R H v h

  -- those that a row and a set have in common are the edges from that set
  pub common-counts : (p : List (List ℕ)) → Holds p (predecessor l m) → (q : ℕ → Bool) (v : ℕ) → v < 128 → count (λ u. is_in (row_of p v) u && q u) 128 ≡ entering l q m v
  unfolding entering
  common-counts p H q v h = ones-entering R q v H h
