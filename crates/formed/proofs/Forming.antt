-- The answer of 18 alone is the answer to the whole log, where it says no; where it doesn't, the log is in form.
use mathlib.Core.Path.{◌≡◌, refl, sym, ◌∙◌}
use mathlib.Core.Logic.{◌⊎◌, inl, inr}
use mathlib.Core.Bool.{true, false}
use mathlib.Core.List.{List}
use Prim.Native.Nat.{ℕ, ◌≤◌, ◌<◌}
use native.Mathlib.Omega.{arith}
use lib.Dec.{lit<}
use borrow.Author.Tests.{lt-ltb, le-ltb}
use Rattle.model.specs.Places.{first}
use Rattle.model.specs.Graph.{Graph}
use Rattle.model.proofs.Bools.{cases, le-or-lt}
use Rattle.model.proofs.Places.{first_below}
use Rattle.graph.specs.File.{records}
use Rattle.graph.specs.declared.Refusal.{Refusal}
use Rattle.graph.specs.Answer.{Accepted, Refused}
use Rattle.recorded.specs.Log.{fault, wrong_length_of, unended, InForm}
use Rattle.recorded.specs.Rules.{holds, number, places}
use Rattle.recorded.specs.Judge.{place_of, judge_log}
use Rattle.formed.specs.Passing.{form_of}
use Rattle.recorded.proofs.Judging.{Off, row_off, off_more, judge-row}

module _ (G : Graph) (l : List ℕ) (room : ℕ) where
  -- 18 says no: wrong length; a record at fault; still running at the end
  data Form : Type 0 where
    length-no : form_of G.n l ≡ Refused (record { number = 18; place = 0 }) → judge_log G l room ≡ Refused (record { number = 18; place = 0 }) → Form
    record-no : form_of G.n l ≡ Refused (record { number = 18; place = first (fault G.n l) (records l) })
        → judge_log G l room ≡ Refused (record { number = 18; place = first (fault G.n l) (records l) }) → Form
    in_form : form_of G.n l ≡ Accepted → InForm G.n l → Form

  form : Form
  unfolding form_of place_of holds places number first
  form = by_length (cases (wrong_length_of l))
    where
      none : Off G l room 0
      none i h = absurd (omega arith)

      by_end : wrong_length_of l ≡ false → records l ≤ first (fault G.n l) (records l) → Off G l room 2 → (unended G.n l ≡ true) ⊎ (unended G.n l ≡ false) → Form
      by_end e h o (inl u) = length-no (rw (e, le-ltb (first (fault G.n l) (records l)) (records l) h, u) refl)
          (let z : place_of G l room 2 ≡ 0 = rw u refl in
          let m : place_of G l room 2 < places G l 2 = rw z (lit< tt) in
          judge-row G l room 2 (lit< tt) o m ∙ rw z refl)
      by_end e h o (inr u) = in_form (rw (e, le-ltb (first (fault G.n l) (records l)) (records l) h, u) refl)
          (record { right_length = e; no_fault = λ k b. first_below (fault G.n l) (records l) k (omega arith); all_stopped = u })

      by-record : wrong_length_of l ≡ false → Off G l room 1 → (records l ≤ first (fault G.n l) (records l)) ⊎ (first (fault G.n l) (records l) < records l) → Form
      by-record e o (inl h) = by_end e h (off_more G l room 1 o (row_off G l room 1 h)) (cases (unended G.n l))
      by-record e o (inr h) = record-no (rw (e, lt-ltb (first (fault G.n l) (records l)) (records l) h) refl) (judge-row G l room 1 (lit< tt) o h)

      by_length : (wrong_length_of l ≡ true) ⊎ (wrong_length_of l ≡ false) → Form
      by_length (inl e) = length-no (rw e refl)
          (let z : place_of G l room 0 ≡ 0 = rw e refl in
          let m : place_of G l room 0 < places G l 0 = rw z (lit< tt) in
          judge-row G l room 0 (lit< tt) none m ∙ rw z refl)
      by_length (inr e) =
          let z : place_of G l room 0 ≡ 1 = rw e refl in
          let m : places G l 0 ≤ place_of G l room 0 = omega (arith, z) in
          by-record e (off_more G l room 0 none (row_off G l room 0 m)) (le-or-lt (records l) (first (fault G.n l) (records l)))

  -- THEOREM. A refusal of 18 is the answer to the log.
  pub form_refused : (r : Refusal) → form_of G.n l ≡ Refused r → judge_log G l room ≡ Refused r
  form_refused r e = go form
    where
      go : Form → judge_log G l room ≡ Refused r
      go (length-no a b) = b ∙ (sym a ∙ e)
      go (record-no a b) = b ∙ (sym a ∙ e)
      go (in_form a b) = absurd (let z : ◌≡◌ {A = ℕ} 0 1 = cc in omega arith)

  -- THEOREM. Where 18 is not said, the log is in form.
  pub form_accepted : form_of G.n l ≡ Accepted → InForm G.n l
  form_accepted e = go form
    where
      go : Form → InForm G.n l
      go (length-no a b) = absurd (let z : ◌≡◌ {A = ℕ} 0 1 = cc in omega arith)
      go (record-no a b) = absurd (let z : ◌≡◌ {A = ℕ} 0 1 = cc in omega arith)
      go (in_form a b) = b
