-- Tests, numbers and lists over the places 0 .. n - 1. Nothing here is about graphs.
--
-- A test is a function from places to Bool. Everything goes by recursion on n, the number of places, so that it computes.
--
--   pick b x y      x where b holds, else y
--   bit b           1 where b holds, else 0
--   first p n       the first place below n at which p holds, or n where there is none
--   count p n       at how many places below n p holds
--   any p n         whether p holds at some place below n
--   every p n       whether p holds at every place below n
--   sum f n         f 0 + .. + f (n - 1)
--   largest f n     the largest of f 0 .. f (n - 1), or 0 where n is 0
--   table f n       the list f 0, .. , f (n - 1)
--   padded l f n    the same, with zeros up to the length l
--   that p n        the places below n at which p holds, in ascending order
--   along f p       the sum of f over the list p
--   Tells n A p     below n, the test p holds exactly where A does
use Rattle.std.specs.Prelude.{◌≡◌, Bool, true, false, ◌&&◌, ◌||◌, List, [], ◌∷◌, ◌++◌, ℕ, zero, suc, ◌+◌, ◌-◌, ◌<◌, max, replicate}

abbrev pub pick {ℓ} : {A : Type ℓ} → Bool → A → A → A
pick true x y = x
pick false x y = y

abbrev pub bit : Bool → ℕ
bit true = 1
bit false = 0

unfoldable pub first : (ℕ → Bool) → ℕ → ℕ
first p zero = zero
first p (suc n) = pick (p zero) zero (suc (first (λ k. p (suc k)) n))

unfoldable pub count : (ℕ → Bool) → ℕ → ℕ
count p zero = 0
count p (suc n) = count p n + bit (p n)

unfoldable pub any : (ℕ → Bool) → ℕ → Bool
any p zero = false
any p (suc n) = any p n || p n

unfoldable pub every : (ℕ → Bool) → ℕ → Bool
every p zero = true
every p (suc n) = every p n && p n

unfoldable pub sum : (ℕ → ℕ) → ℕ → ℕ
sum f zero = 0
sum f (suc n) = sum f n + f n

unfoldable pub largest : (ℕ → ℕ) → ℕ → ℕ
largest f zero = 0
largest f (suc n) = max (largest f n) (f n)

unfoldable pub table : (ℕ → ℕ) → ℕ → List ℕ
table f zero = []
table f (suc n) = table f n ++ (f n ∷ [])

unfoldable pub padded : ℕ → (ℕ → ℕ) → ℕ → List ℕ
padded l f n = table f n ++ replicate (l - n) 0

unfoldable pub that : (ℕ → Bool) → ℕ → List ℕ
that p zero = []
that p (suc n) = that p n ++ pick (p n) (n ∷ []) []

unfoldable pub along : (ℕ → ℕ) → List ℕ → ℕ
along f [] = 0
along f (v ∷ p) = f v + along f p

pub record Tells (n : ℕ) (A : ℕ → Type 0) (p : ℕ → Bool) : Type 0 where
  pub sound : (v : ℕ) → v < n → p v ≡ true → A v
  pub complete : (v : ℕ) → v < n → A v → p v ≡ true
