-- Where lines begin, as a pass meets them.
use mathlib.Core.Path.{◌≡◌, refl}
use mathlib.Core.Bool.{Bool, true, false, ◌&&◌}
use mathlib.Core.List.{List}
use Prim.Native.Nat.{ℕ, ◌+◌, ◌-◌, ◌≤◌, ◌<◌}
use native.Mathlib.Omega.{arith}
use native.Mathlib.Decide.{ℕ_discrete}
use lib.ListN.{length}
use lib.Dec.{eqb, ltb}
use borrow.Author.Tests.{lt-ltb, le-ltb, ne_eqb}
use Rattle.model.specs.Places.{first}
use Rattle.model.proofs.Places.{first-at, first-none, first_below, first-here}
use mathlib.Core.Logic.{◌⊎◌, inl, inr}
use Rattle.model.proofs.Bools.{both, or_right, le-or-lt}
use Rattle.texts.specs.Text.{byte_at, stops, until, line_after}
use Rattle.std.specs.Prelude.{Err}
use Rattle.texts.specs.declared.Sought.TheVariants.{Line}
use Rattle.faults.specs.declared.Wrong.TheVariants.{LineLong}
use Rattle.faults.specs.Faults.{fault, fine, begins, long_line, line_fault}

-- a pass that stands at `at`: a line begins there, unless the text ends, and no line before is too long
pub record Passing (t : List ℕ) (at : ℕ) : Type 0 where
  pub inside : at ≤ length t
  pub start : at < length t → begins t at ≡ true
  pub short : (k : ℕ) → k < at → long_line t k ≡ false

pub passing-none : (t : List ℕ) → Passing t 0
passing-none t = record { inside = omega arith; start = λ l. refl; short = λ k l. absurd (omega arith) }

module _ (t : List ℕ) (at : ℕ) (here : at < length t) where
  -- no line begins within the line at `at`
  pub within-line : (k : ℕ) → at < k → k < line_after t at → begins t k ≡ false
  within-line k l m =
      let p : ℕ → Bool = λ j. stops Line (byte_at t (at + j)) in
      let q : at + (k - 1 - at) ≡ k - 1 = omega arith in
      let b : eqb (byte_at t (at + (k - 1 - at))) 10 ≡ false = first_below p (length t - at) (k - 1 - at) (omega arith) in
      rw (ne_eqb k 0 (λ z. omega arith)) (rw q at b)

  pub next-begins : line_after t at < length t → begins t (line_after t at) ≡ true
  next-begins l =
      let p : ℕ → Bool = λ j. stops Line (byte_at t (at + j)) in
      let f : ℕ = first p (length t - at) in
      let q : at + f ≡ line_after t at - 1 = omega arith in
      let b : eqb (byte_at t (at + f)) 10 ≡ true = first-here p (length t - at) (omega arith) in
      or_right (eqb (line_after t at) 0) _ (rw q at b)

  pub passing-more : Passing t at → ltb 4096 (until Line t at - at) ≡ false → (i : ℕ) → i ≡ line_after t at → Passing t i
  passing-more p e i q = rw q (record {
    inside = omega arith;
    start = next-begins;
    short = λ k l. go k l (ℕ_discrete k at);
  })
    where
      and-false : (a b : Bool) → b ≡ false → a && b ≡ false
      and-false true b e = e
      and-false false b e = refl

      go : (k : ℕ) → k < line_after t at → Dec (k ≡ at) → long_line t k ≡ false
      go k l (yes z) = rw z (and-false (begins t at) _ e)
      go k l (no z) = later (le-or-lt at k)
        where
          later : (at ≤ k) ⊎ (k < at) → long_line t k ≡ false
          later (inl h) = rw (within-line k (omega arith) l) refl
          later (inr h) = p.short k h

  pub long-here : Passing t at → ltb 4096 (until Line t at - at) ≡ true → Err (fault LineLong at) ≡ line_fault t
  unfolding line_fault
  long-here p e =
      let f : first (long_line t) (length t) ≡ at = first-at (long_line t) (length t) at here p.short (both (begins t at) _ (p.start here) e) in
      rw (f, lt-ltb at (length t) here) refl

pub none-long : (t : List ℕ) (at : ℕ) → length t ≤ at → Passing t at → fine ≡ line_fault t
unfolding line_fault
none-long t at l p =
    let f : first (long_line t) (length t) ≡ length t = first-none (long_line t) (length t) (λ k h. p.short k (omega arith)) in
    rw (f, le-ltb (length t) (length t) (omega arith)) refl
