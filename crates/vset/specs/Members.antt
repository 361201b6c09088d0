-- A set of the numbers below 128, kept as two words: number k is bit k mod 64 of word k / 64. The words are read as one number of
-- 128 binary digits, so that k is a member where the digit k is 1, and no number from 128 on is one.
--
--   num lo hi       the two words as one number
--   has w k         the digit k of w is 1
--   is_in s k        k is a member of s
--   Members s p     s is two words, and its members are the numbers for which the test p holds; there is one such set (proofs/Same)
--   word_of p n      the word whose digits below n are 1 where p holds
--   set_of p         the set of the numbers below 128 for which p holds
use Rattle.std.specs.Prelude.{◌≡◌, Bool, ℕ, ◌+◌, ◌*◌, ◌/◌, ◌%◌, ◌^◌, ◌<◌, eqb}
use Rattle.model.specs.Places.{bit, sum}
use Rattle.vset.specs.declared.Vset.{Vset}

unfoldable pub num : ℕ → ℕ → ℕ
num lo hi = hi * 2 ^ 64 + lo

unfoldable pub has : ℕ → ℕ → Bool
has w k = eqb (w / 2 ^ k % 2) 1

unfoldable pub is_in : Vset → ℕ → Bool
is_in s k = has (num s.lo s.hi) k

pub record Members (s : Vset) (p : ℕ → Bool) : Type 0 where
  pub low : s.lo < 2 ^ 64
  pub high : s.hi < 2 ^ 64
  pub are : (k : ℕ) → is_in s k ≡ p k

unfoldable pub word_of : (ℕ → Bool) → ℕ → ℕ
word_of p n = sum (λ i. bit (p i) * 2 ^ i) n

unfoldable pub set_of : (ℕ → Bool) → Vset
set_of p = record { lo = word_of p 64; hi = word_of (λ i. p (64 + i)) 64 }
