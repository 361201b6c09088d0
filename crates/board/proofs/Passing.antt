-- The lines of a text, as a pass meets them.
use mathlib.Core.Path.{◌≡◌, refl, sym, ◌∙◌}
use mathlib.Core.Bool.{Bool, true, false, not}
use mathlib.Core.List.{List}
use Prim.Native.Nat.{ℕ, zero, suc, ◌+◌, ◌≤◌, ◌<◌}
use native.Mathlib.Numerals.{add-one}
use native.Mathlib.Omega.{arith}
use native.Mathlib.Decide.{ℕ_discrete}
use lib.ListN.{length}
use Rattle.std.specs.Prelude.{Result, Ok, Err}
use Rattle.model.specs.Places.{pick}
use Rattle.model.proofs.Bools.{not-is-true, not-false}
use Rattle.texts.specs.declared.Sought.TheVariants.{Word}
use Rattle.texts.specs.Text.{byte_at, ends, until, line_after}
use Rattle.faults.specs.Faults.{then, begins}
use Rattle.faults.proofs.Lines.{within-line, next-begins}
use Rattle.board.specs.declared.Names.{Names}
use Rattle.board.specs.declared.Flawed.{Flawed}
use Rattle.board.specs.Board.{nameless, worded_line_of, line_of, lines_up_to}

-- a line says what its words say, and nothing where it has none; b is whether it has one, f where its first stands
module _ (t : List ℕ) (i : ℕ) (n : Names) (f : ℕ) (e : f ≡ until Word t i) (b : Bool) (q : b ≡ not (ends (byte_at t f))) where
  pub line-worded : b ≡ true → worded_line_of t n f ≡ line_of t n i
  unfolding line_of
  line-worded h = rw (← e, not-is-true _ (sym q ∙ h)) refl

  pub line-wordless : b ≡ false → Ok n ≡ line_of t n i
  unfolding line_of
  line-wordless h = rw (← e, not-false _ (sym q ∙ h)) refl

module _ (t : List ℕ) where
  up-line : (i : ℕ) (n : Names) → lines_up_to t i ≡ Ok n → begins t i ≡ true → lines_up_to t (i + 1) ≡ line_of t n i
  unfolding lines_up_to
  up-line i n e h = rw (add-one, e, h) refl

  -- where no line begins, nothing is added
  up-skip : (i j : ℕ) → i ≤ j → ((k : ℕ) → i ≤ k → k < j → begins t k ≡ false) → lines_up_to t j ≡ lines_up_to t i
  unfolding lines_up_to
  up-skip i zero l f = let e : i ≡ 0 = omega arith in rw e refl
  up-skip i (suc j) l f = go (ℕ_discrete i (suc j)) (λ h. up-skip i j h (λ k p q. f k p (omega arith)))
    where
      kept : (r : Result Names Flawed) → then r (λ n. pick false (line_of t n j) (Ok n)) ≡ r
      kept (Ok n) = refl
      kept (Err e) = refl

      go : Dec (i ≡ suc j) → (i ≤ j → lines_up_to t j ≡ lines_up_to t i) → lines_up_to t (suc j) ≡ lines_up_to t i
      go (yes e) ih = rw e refl
      go (no e) ih = rw (f j (omega arith) (omega arith)) (kept (lines_up_to t j)) ∙ ih (omega arith)

  -- nor after a fault
  up-stop : (i j : ℕ) → i ≤ j → (e : Flawed) → lines_up_to t i ≡ Err e → lines_up_to t j ≡ Err e
  unfolding lines_up_to
  up-stop i zero l e h = let z : i ≡ 0 = omega arith in rw z at h
  up-stop i (suc j) l e h = go (ℕ_discrete i (suc j)) (λ m. up-stop i j m e h)
    where
      go : Dec (i ≡ suc j) → (i ≤ j → lines_up_to t j ≡ Err e) → lines_up_to t (suc j) ≡ Err e
      go (yes z) ih = rw z at h
      go (no z) ih = rw (ih (omega arith)) refl

-- a pass that stands at `at` with the names n
pub record Reading (t : List ℕ) (at : ℕ) (n : Names) : Type 0 where
  pub inside : at ≤ length t
  pub start : at < length t → begins t at ≡ true
  pub so_far : lines_up_to t at ≡ Ok n

pub reading_none : (t : List ℕ) → Reading t 0 nameless
unfolding lines_up_to
reading_none t = record { inside = omega arith; start = λ l. refl; so_far = refl }

module _ (t : List ℕ) (at : ℕ) (n : Names) (r : Reading t at n) where
  pub reading_ends : length t ≤ at → Ok n ≡ lines_up_to t (length t)
  reading_ends l = let e : at ≡ length t = omega (arith, r.inside) in sym (rw e at r.so_far)

  module _ (here : at < length t) where
    pub reading_more : (m : Names) → Ok m ≡ line_of t n at → (i : ℕ) → i ≡ line_after t at → Reading t i m
    reading_more m e i q = rw q (record {
      inside = omega arith;
      start = next-begins t at here;
      so_far =
          up-skip t (at + 1) (line_after t at) (omega arith) (λ k l m. within-line t at here k (omega arith) m)
          ∙ up-line t at n r.so_far (r.start here)
          ∙ sym e;
    })

    pub reading_stops : (f : Flawed) → Err f ≡ line_of t n at → Err f ≡ lines_up_to t (length t)
    reading_stops f e = sym (up-stop t (at + 1) (length t) (omega arith) f (up-line t at n r.so_far (r.start here) ∙ sym e))
