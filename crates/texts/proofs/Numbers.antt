-- The number that a word is, from what the code tests.
use Rattle.std.proofs.Common.{◌≡◌, refl, sym, ap, ◌∙◌, Bool, true, false, not, ◌&&◌, ◌||◌, List, Some, None, Ok, Err, ℕ, zero, suc, ◌+◌, ◌-◌, ◌*◌, ◌≤◌, ◌<◌, length, arith}
use lib.ListN.{get_or}
use lib.Dec.{eqb, ltb}
use borrow.Author.Tests.{lt-ltb, le-ltb}
use native.Mathlib.Numerals.{add-one}
use native.Mathlib.Decide.{ℕ_discrete}
use Rattle.std.specs.Prelude.{unwrap_or}
use Rattle.std.specs.List.{list_all}
use Rattle.std.proofs.lemmas.Option.{none-some}
use mathlib.Core.Logic.{◌⊎◌, inl, inr}
use Rattle.model.specs.Places.{pick}
use Rattle.model.proofs.Bools.{clash, le-or-lt}
use Rattle.texts.specs.declared.NumberError.TheVariants.{NotDigits, TooLarge}
use Rattle.texts.specs.Text.{is_digit, decimal, grown, number_of}

pub no_number : (w : List ℕ) (a b : Bool) → a ≡ eqb (length w) 0 → b ≡ list_all is_digit w → (a || not b) ≡ true → Err NotDigits ≡ number_of w
unfolding number_of
no_number w a b p q e = rw (← p, ← q) (go a b e)
  where
    go : (a b : Bool) → (a || not b) ≡ true
        → Err NotDigits ≡ pick (b && not a) (pick (ltb (decimal w (length w)) 4294967296) (Ok (decimal w (length w))) (Err TooLarge)) (Err NotDigits)
    go true true e = refl
    go true false e = refl
    go false true e = absurd (clash e refl)
    go false false e = refl

pub decimal_up : (w : List ℕ) (m n : ℕ) → m ≤ n → decimal w m ≤ decimal w n
unfolding decimal
decimal_up w m zero l = let e : m ≡ 0 = omega arith in rw e (omega arith)
decimal_up w m (suc n) l = go (ℕ_discrete m (suc n)) (λ h. decimal_up w m n h)
  where
    go : Dec (m ≡ suc n) → (m ≤ n → decimal w m ≤ decimal w n) → decimal w m ≤ decimal w (suc n)
    go (yes e) ih = rw e (omega arith)
    go (no e) ih = omega (arith, ih (omega arith))

pub decimal_more : (w : List ℕ) (i : ℕ) → decimal w (i + 1) ≡ decimal w i * 10 + (get_or w i 0 - 48)
unfolding decimal
decimal_more w i = rw add-one refl

module _ (w : List ℕ) (a b : Bool) (p : a ≡ eqb (length w) 0) (q : b ≡ list_all is_digit w) (e : (a || not b) ≡ false) where
  digits : (list_all is_digit w && not (eqb (length w) 0)) ≡ true
  digits = rw (← p, ← q) (go a b e)
    where
      go : (a b : Bool) → (a || not b) ≡ false → (b && not a) ≡ true
      go false true f = refl
      go false false f = sym f
      go true true f = sym f
      go true false f = sym f

  pub number_there : decimal w (length w) < 4294967296 → Ok (decimal w (length w)) ≡ number_of w
  unfolding number_of
  number_there l = rw (digits, lt-ltb (decimal w (length w)) 4294967296 l) refl

  pub number_large : (i : ℕ) → i < length w → 4294967296 ≤ decimal w (i + 1) → Err TooLarge ≡ number_of w
  unfolding number_of
  number_large i l h =
      let m : 4294967296 ≤ decimal w (length w) = omega (arith, decimal_up w (i + 1) (length w) (omega arith)) in
      rw (digits, le-ltb (decimal w (length w)) 4294967296 m) refl

-- one digit more
module _ (w : List ℕ) (n i : ℕ) (e : n ≡ decimal w i) where
  pub more_there : (m : ℕ) → Some m ≡ grown n (get_or w i 0) → (m ≡ decimal w (i + 1)) × (m < 4294967296)
  more_there m h = go (le-or-lt 4294967296 (n * 10 + (get_or w i 0 - 48)))
    where
      go : (4294967296 ≤ n * 10 + (get_or w i 0 - 48)) ⊎ (n * 10 + (get_or w i 0 - 48) < 4294967296) → (m ≡ decimal w (i + 1)) × (m < 4294967296)
      go (inl l) = absurd (none-some m (sym (rw (le-ltb (n * 10 + (get_or w i 0 - 48)) 4294967296 l) at h)))
      go (inr l) =
          let q : m ≡ n * 10 + (get_or w i 0 - 48) = ap (λ o. unwrap_or o 0) (rw (lt-ltb (n * 10 + (get_or w i 0 - 48)) 4294967296 l) at h) in
          (q ∙ rw (decimal_more w i, ← e) refl, rw q l)

  pub more_large : None ≡ grown n (get_or w i 0) → 4294967296 ≤ decimal w (i + 1)
  more_large h = go (le-or-lt 4294967296 (n * 10 + (get_or w i 0 - 48)))
    where
      go : (4294967296 ≤ n * 10 + (get_or w i 0 - 48)) ⊎ (n * 10 + (get_or w i 0 - 48) < 4294967296) → 4294967296 ≤ decimal w (i + 1)
      go (inl l) = rw (decimal_more w i, ← e) l
      go (inr l) = absurd (none-some (n * 10 + (get_or w i 0 - 48)) (rw (lt-ltb (n * 10 + (get_or w i 0 - 48)) 4294967296 l) at h))
