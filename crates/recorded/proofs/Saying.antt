-- What each number says of a log, with its place: 18 to 22, and 15; and there is no other.
use mathlib.Core.Path.{◌≡◌, refl, sym}
use mathlib.Core.Logic.{◌⊎◌, inl, inr, ⊎_elim}
use mathlib.Core.Bool.{Bool, true, false}
use mathlib.Core.List.{List}
use Prim.Native.Nat.{ℕ, zero, suc, ◌+◌, ◌≤◌, ◌<◌}
use native.Mathlib.Omega.{arith}
use lib.Dec.{lit<, lit≤}
use borrow.Author.Tests.{ltb-true}
use Rattle.model.specs.Graph.{Graph}
use Rattle.graph.specs.File.{records}
use Rattle.graph.specs.declared.Refusal.{Refusal}
use Rattle.recorded.specs.Log.{fault, wrong_length_of, unended, InForm}
use Rattle.recorded.specs.Recorded.{last_instant}
use Rattle.recorded.specs.Rules.{rule19, rule20, rule21, rule22, Passes, holds, number, places}
use Rattle.recorded.specs.Judge.{First, Rightly}

module _ (G : Graph) (l : List ℕ) (room : ℕ) where
  -- the row of a refusal: its first place, and no row before it holds
  pub record At (row place : ℕ) : Type 0 where
    pub first : First (holds G l room row) (places G l row) place
    pub no_earlier : (i k : ℕ) → i < row → k < places G l i → holds G l room i k ≡ false

  rows_of : (row num : ℕ) → row < 8 → number row ≡ num → ((row < 3) × (num ≡ 18)) ⊎ (((row ≡ 7) × (num ≡ 15)) ⊎ ((3 ≤ row) × (row < 7) × (num ≡ row + 16)))
  unfolding number
  rows_of zero num h e = inl (lit< tt, sym e)
  rows_of (suc zero) num h e = inl (lit< tt, sym e)
  rows_of (suc (suc zero)) num h e = inl (lit< tt, sym e)
  rows_of (suc (suc (suc zero))) num h e = inr (inr (lit≤ tt, lit< tt, sym e))
  rows_of (suc (suc (suc (suc zero)))) num h e = inr (inr (lit≤ tt, lit< tt, sym e))
  rows_of (suc (suc (suc (suc (suc zero))))) num h e = inr (inr (lit≤ tt, lit< tt, sym e))
  rows_of (suc (suc (suc (suc (suc (suc zero)))))) num h e = inr (inr (lit≤ tt, lit< tt, sym e))
  rows_of (suc (suc (suc (suc (suc (suc (suc zero))))))) num h e = inr (inl (refl, sym e))
  rows_of (suc (suc (suc (suc (suc (suc (suc (suc row)))))))) num h e = absurd (omega arith)

  module _ (r : Refusal) (R : Rightly G l room r) where
    at : (row : ℕ) → R.row ≡ row → At row r.place
    at row q = rw (← q) (record {
      first = record { within = R.within; there = R.there; not_before = R.not_before };
      no_earlier = R.no_earlier;
    })

    row_is : (row num : ℕ) → 3 ≤ row → row < 7 → num ≡ row + 16 → r.number ≡ num → R.row ≡ row
    row_is row num a b e q = ⊎_elim
        (λ (x : (R.row < 3) × (r.number ≡ 18)). absurd (omega (arith, x.1)))
        (λ y. ⊎_elim
        (λ (x : (R.row ≡ 7) × (r.number ≡ 15)). absurd (omega (arith, x.1)))
        (λ (x : (3 ≤ R.row) × (R.row < 7) × (r.number ≡ R.row + 16)). omega (arith, x.2)) y)
        (rows_of R.row r.number R.known (sym R.named))

    form-by : (row : ℕ) → At row r.place → 3 ≤ row → InForm G.n l
    unfolding holds places
    form-by row x h = record {
      right_length = x.no_earlier 0 0 (omega arith) (lit< tt);
      no_fault = λ k b. x.no_earlier 1 k (omega arith) b;
      all_stopped = x.no_earlier 2 0 (omega arith) (lit< tt);
    }

    -- THEOREM. 18 is said of a wrong length, at place 0; else of the first record at fault; else, at place 0, where a vertex is running at the end.
    pub says_18 : r.number ≡ 18 → ((wrong_length_of l ≡ true) × (r.place ≡ 0))
        ⊎ (((wrong_length_of l ≡ false) × First (fault G.n l) (records l) r.place)
        ⊎ ((wrong_length_of l ≡ false) × ((k : ℕ) → k < records l → fault G.n l k ≡ false) × (unended G.n l ≡ true) × (r.place ≡ 0)))
    unfolding holds places
    says_18 q = ⊎_elim
        (λ (x : (R.row < 3) × (r.number ≡ 18)). by R.row x.0 (at R.row refl))
        (λ y. absurd (⊎_elim
        (λ (x : (R.row ≡ 7) × (r.number ≡ 15)). omega (arith, x.1))
        (λ (x : (3 ≤ R.row) × (R.row < 7) × (r.number ≡ R.row + 16)). omega (arith, x.0, x.2)) y))
        (rows_of R.row r.number R.known (sym R.named))
      where
        by : (row : ℕ) → row < 3 → At row r.place → ((wrong_length_of l ≡ true) × (r.place ≡ 0))
            ⊎ (((wrong_length_of l ≡ false) × First (fault G.n l) (records l) r.place)
            ⊎ ((wrong_length_of l ≡ false) × ((k : ℕ) → k < records l → fault G.n l k ≡ false) × (unended G.n l ≡ true) × (r.place ≡ 0)))
        by zero h x = inl (x.first.there, omega (arith, x.first.within))
        by (suc zero) h x = inr (inl (x.no_earlier 0 0 (lit< tt) (lit< tt), x.first))
        by (suc (suc zero)) h x =
            inr (inr (x.no_earlier 0 0 (lit< tt) (lit< tt), (λ k b. x.no_earlier 1 k (lit< tt) b), x.first.there, omega (arith, x.first.within)))
        by (suc (suc (suc row))) h x = absurd (omega arith)

    -- THEOREM. 19 has the first start at fault, in a log in form.
    pub says_19 : r.number ≡ 19 → InForm G.n l × First (rule19 G l) (records l) r.place
    unfolding holds places
    says_19 q = let x = at 3 (row_is 3 19 (lit≤ tt) (lit< tt) refl q) in (form-by 3 x (lit≤ tt), x.first)

    -- THEOREM. 20 too, where no start is at fault by 19.
    pub says_20 : r.number ≡ 20 → InForm G.n l × ((k : ℕ) → k < records l → rule19 G l k ≡ false) × First (rule20 G l) (records l) r.place
    unfolding holds places
    says_20 q = let x = at 4 (row_is 4 20 (lit≤ tt) (lit< tt) refl q) in (form-by 4 x (lit≤ tt), (λ k b. x.no_earlier 3 k (lit< tt) b), x.first)

    -- THEOREM. 21 has the first vertex, where 19 and 20 hold nowhere.
    pub says_21 : r.number ≡ 21 → InForm G.n l × ((k : ℕ) → k < records l → (rule19 G l k ≡ false) × (rule20 G l k ≡ false)) × First (rule21 G l) G.n r.place
    unfolding holds places
    says_21 q =
        let x = at 5 (row_is 5 21 (lit≤ tt) (lit< tt) refl q) in
        (form-by 5 x (lit≤ tt), (λ k b. (x.no_earlier 3 k (lit< tt) b, x.no_earlier 4 k (lit< tt) b)), x.first)

    -- THEOREM. 22 has the first instant, where 19 to 21 hold nowhere.
    pub says_22 : r.number ≡ 22 → InForm G.n l × ((k : ℕ) → k < records l → (rule19 G l k ≡ false) × (rule20 G l k ≡ false))
        × ((v : ℕ) → v < G.n → rule21 G l v ≡ false) × First (rule22 G l) (last_instant l) r.place
    unfolding holds places
    says_22 q =
        let x = at 6 (row_is 6 22 (lit≤ tt) (lit< tt) refl q) in
        (form-by 6 x (lit≤ tt), (λ k b. (x.no_earlier 3 k (lit< tt) b, x.no_earlier 4 k (lit< tt) b)), (λ v b. x.no_earlier 5 v (lit< tt) b), x.first)

    -- THEOREM. 15 comes last: the log is in form and passes, and the list is too short.
    pub says_15 : r.number ≡ 15 → InForm G.n l × Passes G l × (room < G.n) × (r.place ≡ 0)
    unfolding holds places
    says_15 q = ⊎_elim
        (λ (x : (R.row < 3) × (r.number ≡ 18)). absurd (omega (arith, x.1)))
        (λ y. ⊎_elim
        (λ (x : (R.row ≡ 7) × (r.number ≡ 15)). by (at 7 x.0))
        (λ (x : (3 ≤ R.row) × (R.row < 7) × (r.number ≡ R.row + 16)). absurd (omega (arith, x.0, x.2))) y)
        (rows_of R.row r.number R.known (sym R.named))
      where
        by : At 7 r.place → InForm G.n l × Passes G l × (room < G.n) × (r.place ≡ 0)
        by x = (
          form-by 7 x (lit≤ tt),
          record {
            no_19 = λ k b. x.no_earlier 3 k (lit< tt) b;
            no_20 = λ k b. x.no_earlier 4 k (lit< tt) b;
            no_21 = λ v b. x.no_earlier 5 v (lit< tt) b;
            no_22 = λ t b. x.no_earlier 6 t (lit< tt) b;
          },
          ltb-true room G.n x.first.there,
          omega (arith, x.first.within),
        )

    -- THEOREM. There is no other number.
    pub says-one : (r.number ≡ 15) ⊎ ((18 ≤ r.number) × (r.number ≤ 22))
    says-one = ⊎_elim
        (λ (x : (R.row < 3) × (r.number ≡ 18)). inr (omega (arith, x.1), omega (arith, x.1)))
        (λ y. ⊎_elim
        (λ (x : (R.row ≡ 7) × (r.number ≡ 15)). inl x.1)
        (λ (x : (3 ≤ R.row) × (R.row < 7) × (r.number ≡ R.row + 16)). inr (omega (arith, x.0, x.2), omega (arith, x.1, x.2))) y)
        (rows_of R.row r.number R.known (sym R.named))
