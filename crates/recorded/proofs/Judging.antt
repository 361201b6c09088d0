-- What an answer to a log says of the rows.
use mathlib.Core.Path.{◌≡◌, refl}
use mathlib.Core.Logic.{⊎_elim}
use mathlib.Core.Bool.{Bool, true, false}
use mathlib.Core.List.{List}
use Prim.Native.Nat.{ℕ, zero, suc, ◌≤◌, ◌<◌}
use native.Mathlib.Omega.{arith}
use lib.Dec.{ltb, lit<}
use borrow.Author.Tests.{lt-ltb, le-ltb, ltb-true, ltb-false}
use Rattle.model.specs.Places.{pick, first}
use Rattle.model.specs.Graph.{Graph}
use Rattle.model.proofs.Bools.{le-or-lt}
use Rattle.model.proofs.Places.{first-at, first-none, first_below, first-here}
use Rattle.graph.specs.declared.Refusal.{Refusal}
use Rattle.graph.specs.Answer.{Accepted, Refused}
use Rattle.recorded.specs.Log.{InForm}
use Rattle.recorded.specs.Rules.{Passes, holds, number, places}
use Rattle.recorded.specs.Judge.{place_of, applies, first_row, judge_log, Rightly}

module _ (G : Graph) (l : List ℕ) (room : ℕ) where
  -- a row that does not apply holds for no place, and back
  not-applies : (row : ℕ) → applies G l room row ≡ false → (k : ℕ) → k < places G l row → holds G l room row k ≡ false
  unfolding applies place_of
  not-applies row h k m =
      first_below (holds G l room row) (places G l row) k (omega (arith, ltb-false (first (holds G l room row) (places G l row)) (places G l row) h))

  holds-nowhere : (row : ℕ) → ((k : ℕ) → k < places G l row → holds G l room row k ≡ false) → applies G l room row ≡ false
  unfolding applies place_of
  holds-nowhere row h = le-ltb (first (holds G l room row) (places G l row)) (places G l row) (omega (arith, first-none (holds G l room row) (places G l row) h))

  -- THEOREM. An accepted log has no row that holds for any place; and a log with none is accepted.
  pub quiet : judge_log G l room ≡ Accepted → (row k : ℕ) → row < 8 → k < places G l row → holds G l room row k ≡ false
  unfolding judge_log first_row
  quiet ok row k h m = not-applies row (go (ltb (first (applies G l room) 8) 8) refl ok) k m
    where
      go : (b : Bool) → ltb (first (applies G l room) 8) 8 ≡ b
          → pick b (Refused (record { number = number (first (applies G l room) 8); place = place_of G l room (first (applies G l room) 8) })) Accepted ≡ Accepted
          → applies G l room row ≡ false
      go true e q = absurd (let z : ◌≡◌ {A = ℕ} 0 1 = cc in omega arith)
      go false e q = first_below (applies G l room) 8 row (omega (arith, ltb-false (first (applies G l room) 8) 8 e))

  pub all_quiet : ((row k : ℕ) → row < 8 → k < places G l row → holds G l room row k ≡ false) → judge_log G l room ≡ Accepted
  unfolding judge_log first_row
  all_quiet h =
      let e : first (applies G l room) 8 ≡ 8 = first-none (applies G l room) 8 (λ row m. holds-nowhere row (λ k b. h row k m b)) in
      rw (le-ltb (first (applies G l room) 8) 8 (omega arith)) refl

  -- THEOREM. A refusal has the number of the first row that applies, and the first place that it holds for.
  pub rightly : (r : Refusal) → judge_log G l room ≡ Refused r → Rightly G l room r
  unfolding judge_log first_row
  rightly r ok = go (ltb (first (applies G l room) 8) 8) refl ok
    where
      here : (row : ℕ) → applies G l room row ≡ true → row < 8 → ((i : ℕ) → i < row → applies G l room i ≡ false)
          → Rightly G l room (record { number = number row; place = place_of G l room row })
      here row a h none = unfold applies place_of in
          let m : first (holds G l room row) (places G l row) < places G l row = ltb-true (first (holds G l room row) (places G l row)) (places G l row) a in
          record {
            row = row;
            known = h;
            named = refl;
            within = m;
            there = first-here (holds G l room row) (places G l row) m;
            not_before = λ k b. first_below (holds G l room row) (places G l row) k b;
            no_earlier = λ i k b d. not-applies i (none i b) k d;
          }

      go : (b : Bool) → ltb (first (applies G l room) 8) 8 ≡ b
          → pick b (Refused (record { number = number (first (applies G l room) 8); place = place_of G l room (first (applies G l room) 8) })) Accepted ≡ Refused r
          → Rightly G l room r
      go true e q =
          let m : first (applies G l room) 8 < 8 = ltb-true (first (applies G l room) 8) 8 e in
          let x : record { number = number (first (applies G l room) 8); place = place_of G l room (first (applies G l room) 8) } ≡ r = cc in
          rw (← x) (here (first (applies G l room) 8) (first-here (applies G l room) 8 m) m (λ i b. first_below (applies G l room) 8 i b))
      go false e q = absurd (let z : ◌≡◌ {A = ℕ} 0 1 = cc in omega arith)

  -- ---- the rows by name

  module _ (ok : judge_log G l room ≡ Accepted) where
    pub in_form : InForm G.n l
    unfolding holds places
    in_form = record {
      right_length = quiet ok 0 0 (lit< tt) (lit< tt);
      no_fault = λ k h. quiet ok 1 k (lit< tt) h;
      all_stopped = quiet ok 2 0 (lit< tt) (lit< tt);
    }

    pub passes : Passes G l
    unfolding holds places
    passes = record {
      no_19 = λ k h. quiet ok 3 k (lit< tt) h;
      no_20 = λ k h. quiet ok 4 k (lit< tt) h;
      no_21 = λ v h. quiet ok 5 v (lit< tt) h;
      no_22 = λ t h. quiet ok 6 t (lit< tt) h;
    }

    pub room-enough : G.n ≤ room
    unfolding holds places
    room-enough = ltb-false room G.n (quiet ok 7 0 (lit< tt) (lit< tt))

  pub judged : InForm G.n l → Passes G l → G.n ≤ room → judge_log G l room ≡ Accepted
  unfolding holds places
  judged f p m = all_quiet rows
    where
      rows : (row k : ℕ) → row < 8 → k < places G l row → holds G l room row k ≡ false
      rows zero k h b = f.right_length
      rows (suc zero) k h b = f.no_fault k b
      rows (suc (suc zero)) k h b = f.all_stopped
      rows (suc (suc (suc zero))) k h b = p.no_19 k b
      rows (suc (suc (suc (suc zero)))) k h b = p.no_20 k b
      rows (suc (suc (suc (suc (suc zero))))) k h b = p.no_21 k b
      rows (suc (suc (suc (suc (suc (suc zero)))))) k h b = p.no_22 k b
      rows (suc (suc (suc (suc (suc (suc (suc zero))))))) k h b = le-ltb room G.n m
      rows (suc (suc (suc (suc (suc (suc (suc (suc row)))))))) k h b = absurd (omega arith)

  -- ---- row by row, as the code goes

  abbrev pub Off : ℕ → Type 0
  Off r = (i : ℕ) → i < r → applies G l room i ≡ false

  pub row_off : (row : ℕ) → places G l row ≤ place_of G l room row → applies G l room row ≡ false
  unfolding applies
  row_off row h = le-ltb (place_of G l room row) (places G l row) h

  pub off_more : (r : ℕ) → Off r → applies G l room r ≡ false → Off (suc r)
  off_more r o e i h = ⊎_elim (λ (m : r ≤ i). let q : i ≡ r = omega arith in rw q e) (λ (m : i < r). o i m) (le-or-lt r i)

  pub off_form : InForm G.n l → Off 3
  unfolding holds places
  off_form f = off_more 2 (off_more 1 (off_more 0 (λ i h. absurd (omega arith))
      (holds-nowhere 0 (λ k b. f.right_length))) (holds-nowhere 1 (λ k b. f.no_fault k b))) (holds-nowhere 2 (λ k b. f.all_stopped))

  pub judge-row : (row : ℕ) → row < 8 → Off row → place_of G l room row < places G l row
      → judge_log G l room ≡ Refused (record { number = number row; place = place_of G l room row })
  unfolding judge_log first_row
  judge-row row h o m =
      let e : first (applies G l room) 8 ≡ row = first-at (applies G l room) 8 row h o (unfold applies in lt-ltb (place_of G l room row) (places G l row) m) in
      rw (e, lt-ltb row 8 h) refl

  pub judge-none : Off 8 → judge_log G l room ≡ Accepted
  unfolding judge_log first_row
  judge-none o = rw (le-ltb (first (applies G l room) 8) 8 (omega (arith, first-none (applies G l room) 8 o))) refl
