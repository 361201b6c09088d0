-- Two words of 64 digits as one number of 128: what each function on the words makes of that number's digits.
use mathlib.Core.Path.{◌≡◌, sym, ap, ap₂, ◌∙◌}
use Prim.Native.Nat.{ℕ, ◌+◌, ◌-◌, ◌*◌, ◌%◌, ◌^◌, ◌≤◌, ◌<◌}
use mathlib.Core.Logic.{◌⊎◌, inl, inr, ⊎_elim}
use native.Mathlib.Nat.{add_comm, zero-add, add-zero, one-mul, mod-lt, mod-eq_of_lt, add-mul}
use native.Mathlib.Omega.{arith}
use mathlib.Core.Bool.{Bool, true, false, not, ◌&&◌, ◌||◌}
use lib.Dec.{eqb, lit<}
use lib.Bits.{bit_and, bit_or, and_block, or_block, and_lt, or_lt, and_mask, or_zero_r}
use lib.Arith.{digits_lt}
use lib.Pow.{pow_pos, pow-lt, pow-add, ones_sub-lt}
use lib.Count.{ones, ones_cat, count_trailing_zeros}
use borrow.Author.Tests.{eq-eqb, eqb-true}
use Rattle.model.specs.Places.{count, first, any}
use Rattle.model.proofs.Bools.{cases, clash, le-or-lt, not-true, both, left-of, right_of}
use Rattle.model.proofs.Places.{first-at, first-none, any_elim, any_false}
use Rattle.vset.specs.Members.{has, num, is_in, Members}
use Rattle.vset.specs.declared.Vset.{Vset}
use Rattle.model.proofs.Places.{first-le, first_below, first-here}
use Rattle.vset.proofs.Digits.{has-low, has-high, has-and, has-or, has-pow, has-and-not, has-zero, has_above, has_ext, ones-count, trailing_first, trailing_lt, has-less}

-- a word
abbrev pub Word : ℕ → Type 0
Word x = x < 2 ^ 64

pub num-lt : (lo hi : ℕ) → Word lo → Word hi → num lo hi < 2 ^ 128
unfolding num
num-lt lo hi a b = digits_lt b a

pub num-and : (lo hi lo' hi' : ℕ) → Word lo → Word lo' → num (bit_and lo lo') (bit_and hi hi') ≡ bit_and (num lo hi) (num lo' hi')
unfolding num
num-and lo hi lo' hi' a b = sym (and_block 64 hi hi' lo lo' a b)

pub num-or : (lo hi lo' hi' : ℕ) → Word lo → Word lo' → num (bit_or lo lo') (bit_or hi hi') ≡ bit_or (num lo hi) (num lo' hi')
unfolding num
num-or lo hi lo' hi' a b = sym (or_block 64 hi hi' lo lo' a b)

not_block : (n c hi lo : ℕ) → hi < n → lo < c → ((n - 1) - hi) * c + ((c - 1) - lo) ≡ (n * c - 1) - (hi * c + lo)
not_block n c hi lo a b =
    let e : n ≡ ((n - 1) - hi) + (hi + 1) = omega arith in
    let p : n * c ≡ ((n - 1) - hi) * c + (hi * c + 1 * c) = ap (λ (x : ℕ). x * c) e ∙ add-mul ((n - 1) - hi) (hi + 1) c ∙ ap (λ (x : ℕ). ((n - 1) - hi) * c + x) (add-mul hi 1 c) in
    omega (arith, p)

pub num-not : (lo hi : ℕ) → Word lo → Word hi → num ((2 ^ 64 - 1) - lo) ((2 ^ 64 - 1) - hi) ≡ (2 ^ 128 - 1) - num lo hi
unfolding num
num-not lo hi a b = not_block (2 ^ 64) (2 ^ 64) hi lo b a

-- `1 << i`
pub bit_word : (i : ℕ) → i < 64 → (1 * 2 ^ i) % 2 ^ 64 ≡ 2 ^ i
bit_word i l = ap (λ (x : ℕ). x % 2 ^ 64) (one-mul (2 ^ i)) ∙ mod-eq_of_lt (pow-lt l)

bit-lt : (i : ℕ) → Word ((1 * 2 ^ i) % 2 ^ 64)
bit-lt i = mod-lt (1 * 2 ^ i) (lit< tt)

pub num-low-bit : (i : ℕ) → num (2 ^ i) 0 ≡ 2 ^ i
unfolding num
num-low-bit i = zero-add (2 ^ i)

pub num-high-bit : (i : ℕ) → 64 ≤ i → num 0 (2 ^ (i - 64)) ≡ 2 ^ i
unfolding num
num-high-bit i l = add-zero (2 ^ (i - 64) * 2 ^ 64) ∙ sym (pow-add 2 (i - 64) 64) ∙ ap (λ (x : ℕ). 2 ^ x) e
  where
    e : (i - 64) + 64 ≡ i
    e = omega arith

pub test_low : (lo hi i : ℕ) → i < 64 → has (num lo hi) i ≡ has lo i
unfolding num
test_low lo hi i l = has-low 64 hi lo i l

pub test-high : (lo hi i : ℕ) → Word lo → 64 ≤ i → has (num lo hi) i ≡ has hi (i - 64)
unfolding num
test-high lo hi i h l = ap (has (hi * 2 ^ 64 + lo)) e ∙ has-high 64 hi lo (i - 64) h
  where
    e : i ≡ 64 + (i - 64)
    e = omega arith

-- ---- the functions on two words, as what they make of the one number

module _ (lo hi lo' hi' : ℕ) (a : Word lo) (b : Word hi) (a' : Word lo') (b' : Word hi') (k : ℕ) where
  pub both-has : has (num (bit_and lo lo') (bit_and hi hi')) k ≡ has (num lo hi) k && has (num lo' hi') k
  both-has = ap (λ (x : ℕ). has x k) (num-and lo hi lo' hi' a a') ∙ has-and (num lo hi) (num lo' hi') k

  pub either-has : has (num (bit_or lo lo') (bit_or hi hi')) k ≡ has (num lo hi) k || has (num lo' hi') k
  either-has = ap (λ (x : ℕ). has x k) (num-or lo hi lo' hi' a a') ∙ has-or (num lo hi) (num lo' hi') k

  pub minus-has : has (num (bit_and lo ((2 ^ 64 - 1) - lo')) (bit_and hi ((2 ^ 64 - 1) - hi'))) k ≡ has (num lo hi) k && not (has (num lo' hi') k)
  minus-has =
      ap (λ (x : ℕ). has x k) (num-and lo hi ((2 ^ 64 - 1) - lo') ((2 ^ 64 - 1) - hi') a (ones_sub-lt 64 lo') ∙ ap (bit_and (num lo hi)) (num-not lo' hi' a' b'))
      ∙ has-and-not 128 (num lo hi) (num lo' hi') k (num-lt lo hi a b) (num-lt lo' hi' a' b')

full : (x : ℕ) → Word x → bit_and x ((2 ^ 64 - 1) - 0) ≡ x
full x h = and_mask x 64 ∙ mod-eq_of_lt h

module _ (lo hi i : ℕ) (a : Word lo) (b : Word hi) (k : ℕ) where
  pub with-low : i < 64 → has (num (bit_or lo ((1 * 2 ^ i) % 2 ^ 64)) hi) k ≡ has (num lo hi) k || eqb k i
  with-low l =
      ap₂ (λ (x y : ℕ). has (num (bit_or lo x) y) k) (bit_word i l) (sym (or_zero_r hi))
      ∙ either-has lo hi (2 ^ i) 0 a b (pow-lt l) (lit< tt) k
      ∙ ap (λ (x : Bool). has (num lo hi) k || x) (ap (λ (x : ℕ). has x k) (num-low-bit i) ∙ has-pow i k)

  pub with-high : 64 ≤ i → i < 128 → has (num lo (bit_or hi ((1 * 2 ^ (i - 64)) % 2 ^ 64))) k ≡ has (num lo hi) k || eqb k i
  with-high g l =
      let l' : i - 64 < 64 = omega arith in
      ap₂ (λ (x y : ℕ). has (num y (bit_or hi x)) k) (bit_word (i - 64) l') (sym (or_zero_r lo))
      ∙ either-has lo hi 0 (2 ^ (i - 64)) a b (lit< tt) (pow-lt l') k
      ∙ ap (λ (x : Bool). has (num lo hi) k || x) (ap (λ (x : ℕ). has x k) (num-high-bit i g) ∙ has-pow i k)

  pub without-low : i < 64 → has (num (bit_and lo ((2 ^ 64 - 1) - (1 * 2 ^ i) % 2 ^ 64)) hi) k ≡ has (num lo hi) k && not (eqb k i)
  without-low l =
      ap₂ (λ (x y : ℕ). has (num (bit_and lo ((2 ^ 64 - 1) - x)) y) k) (bit_word i l) (sym (full hi b))
      ∙ minus-has lo hi (2 ^ i) 0 a b (pow-lt l) (lit< tt) k
      ∙ ap (λ (x : Bool). has (num lo hi) k && not x) (ap (λ (x : ℕ). has x k) (num-low-bit i) ∙ has-pow i k)

  pub without-high : 64 ≤ i → i < 128 → has (num lo (bit_and hi ((2 ^ 64 - 1) - (1 * 2 ^ (i - 64)) % 2 ^ 64))) k ≡ has (num lo hi) k && not (eqb k i)
  without-high g l =
      let l' : i - 64 < 64 = omega arith in
      ap₂ (λ (x y : ℕ). has (num y (bit_and hi ((2 ^ 64 - 1) - x))) k) (bit_word (i - 64) l') (sym (full lo a))
      ∙ minus-has lo hi 0 (2 ^ (i - 64)) a b (lit< tt) (pow-lt l') k
      ∙ ap (λ (x : Bool). has (num lo hi) k && not x) (ap (λ (x : ℕ). has x k) (num-high-bit i g) ∙ has-pow i k)

-- ---- counts

pub size-has : (lo hi : ℕ) → Word lo → Word hi → ones lo + ones hi ≡ count (has (num lo hi)) 128
unfolding num
size-has lo hi a b = add_comm (ones lo) (ones hi) ∙ sym (ones_cat 64 hi lo a) ∙ ones-count 128 (num lo hi) (num-lt lo hi a b)

num-zero : (lo hi : ℕ) → num lo hi ≡ 0 → (lo ≡ 0) × (hi ≡ 0)
unfolding num
num-zero lo hi e = omega arith

-- a number with no digit is 0
no_digit : (k w : ℕ) → w < 2 ^ k → any (has w) k ≡ false → w ≡ 0
no_digit k w h e = has_ext k w 0 h (pow_pos k) (λ i. ⊎_elim (λ l. has_above k w i h l) (λ l. any_false (has w) k i l e) (le-or-lt k i) ∙ sym (has-zero i))

pub empty-has : (lo hi : ℕ) → Word lo → Word hi → eqb lo 0 && eqb hi 0 ≡ not (any (has (num lo hi)) 128)
unfolding num
empty-has lo hi a b = go (cases (any (has (num lo hi)) 128))
  where
    some : any (has (num lo hi)) 128 ≡ true → eqb lo 0 && eqb hi 0 ≡ false
    some e = not-true _ (λ t.
        let r = any_elim (has (num lo hi)) 128 e in
        let l : lo ≡ 0 = eqb-true lo 0 (left-of (eqb lo 0) (eqb hi 0) t) in
        let h : hi ≡ 0 = eqb-true hi 0 (right_of (eqb lo 0) (eqb hi 0) t) in
        clash r.2 (ap₂ (λ (x y : ℕ). has (num x y) r.0) l h ∙ has-zero r.0))

    go : (any (has (num lo hi)) 128 ≡ true) ⊎ (any (has (num lo hi)) 128 ≡ false) → eqb lo 0 && eqb hi 0 ≡ not (any (has (num lo hi)) 128)
    go (inl e) = rw e (some e)
    go (inr e) =
        let z = num-zero lo hi (no_digit 128 (num lo hi) (num-lt lo hi a b) e) in
        rw e (both (eqb lo 0) (eqb hi 0) (eq-eqb lo 0 z.0) (eq-eqb hi 0 z.1))

-- ---- the lowest

module _ (lo hi : ℕ) (a : Word lo) (b : Word hi) where
  -- the low word has one: it is the lowest of both
  pub lowest-low : (lo ≡ 0 → ⊥) → count_trailing_zeros 64 lo ≡ first (has (num lo hi)) 128
  lowest-low z =
      let t = trailing_first 64 lo in
      let l : first (has lo) 64 < 64 = rw t at (trailing_lt 64 lo (omega arith) a) in
      t ∙ sym (first-at (has (num lo hi)) 128 (first (has lo) 64) (omega arith) (λ k h. test_low lo hi k (omega arith) ∙ first_below (has lo) 64 k h)
      (test_low lo hi (first (has lo) 64) l ∙ first-here (has lo) 64 l))

  -- the low word has none: the lowest is that of the high word
  pub lowest-high : lo ≡ 0 → count_trailing_zeros 64 hi + 64 ≡ first (has (num lo hi)) 128
  lowest-high z = ap (λ (x : ℕ). x + 64) (trailing_first 64 hi) ∙ ⊎_elim nobody found (le-or-lt 64 (first (has hi) 64))
    where
      under : (k : ℕ) → k < first (has hi) 64 + 64 → has (num lo hi) k ≡ false
      under k h =
          ⊎_elim
          (λ (g : 64 ≤ k). test-high lo hi k a g ∙ first_below (has hi) 64 (k - 64) (omega arith))
          (λ (g : k < 64). test_low lo hi k g ∙ ap (λ (x : ℕ). has x k) z ∙ has-zero k)
          (le-or-lt 64 k)

      nobody : 64 ≤ first (has hi) 64 → first (has hi) 64 + 64 ≡ first (has (num lo hi)) 128
      nobody g =
          let e : first (has hi) 64 + 64 ≡ 128 = omega (arith, first-le (has hi) 64) in
          e ∙ sym (first-none (has (num lo hi)) 128 (λ k h. under k (omega arith)))

      found : first (has hi) 64 < 64 → first (has hi) 64 + 64 ≡ first (has (num lo hi)) 128
      found g =
          let back : first (has hi) 64 + 64 - 64 ≡ first (has hi) 64 = omega arith in
          sym (first-at (has (num lo hi)) 128 (first (has hi) 64 + 64) (omega arith) under
          (test-high lo hi (first (has hi) 64 + 64) a (omega arith) ∙ ap (has hi) back ∙ first-here (has hi) 64 g))

  -- the high word has one where the low word has none
  pub some-high : any (has (num lo hi)) 128 ≡ true → lo ≡ 0 → 0 < hi
  some-high e z = ⊎_elim (λ (g : 1 ≤ hi). g) (λ (g : hi < 1). absurd (clash (both (eqb lo 0) (eqb hi 0) (eq-eqb lo 0 z) (eq-eqb hi 0 (omega arith))) (empty-has lo hi a b ∙ ap not e))) (le-or-lt 1 hi)

-- `w & (w - 1)` is w without its lowest digit
lowest_off : (w : ℕ) → 0 < w → Word w → bit_and w (w - 1) ≡ bit_and w ((2 ^ 64 - 1) - (1 * 2 ^ count_trailing_zeros 64 w) % 2 ^ 64)
lowest_off w some a =
    has_ext 64 (bit_and w (w - 1)) (bit_and w ((2 ^ 64 - 1) - (1 * 2 ^ t) % 2 ^ 64)) (and_lt 64 w (w - 1) a (omega arith)) (and_lt 64 w ((2 ^ 64 - 1) - (1 * 2 ^ t) % 2 ^ 64) a (ones_sub-lt 64 ((1 * 2 ^ t) % 2 ^ 64)))
    (λ i. has-and w (w - 1) i ∙ has-less 64 w i some a ∙ ap (λ (x : Bool). has w i && not x) (sym (has-pow t i)) ∙ sym (has-and-not 64 w (2 ^ t) i a (pow-lt l))
    ∙ ap (λ (x : ℕ). has (bit_and w ((2 ^ 64 - 1) - x)) i) (sym (bit_word t l)))
  where
    t : ℕ
    t = count_trailing_zeros 64 w

    l : t < 64
    l = trailing_lt 64 w some a

-- ---- the same of sets

module _ (s : Vset) (a : Word s.lo) (b : Word s.hi) where
  -- a set has the members it has
  pub itself : (p : ℕ → Bool) → ((k : ℕ) → is_in s k ≡ p k) → Members s p
  itself p e = record { low = a; high = b; are = e }

  pub past-none : (k : ℕ) → 128 ≤ k → is_in s k ≡ false
  unfolding is_in
  past-none k l = has_above 128 (num s.lo s.hi) k (num-lt _ _ a b) l

  module _ (i : ℕ) where
    pub with-low-set : i < 64 → Members (record { lo = bit_or s.lo ((1 * 2 ^ i) % 2 ^ 64); hi = s.hi }) (λ k. is_in s k || eqb k i)
    unfolding is_in
    with-low-set l = record {
      low = or_lt 64 s.lo ((1 * 2 ^ i) % 2 ^ 64) a (bit-lt i);
      high = b;
      are = λ k. with-low s.lo s.hi i a b k l;
    }

    pub with-high-set : 64 ≤ i → i < 128 → Members (record { lo = s.lo; hi = bit_or s.hi ((1 * 2 ^ (i - 64)) % 2 ^ 64) }) (λ k. is_in s k || eqb k i)
    unfolding is_in
    with-high-set g l = record {
      low = a;
      high = or_lt 64 s.hi ((1 * 2 ^ (i - 64)) % 2 ^ 64) b (bit-lt (i - 64));
      are = λ k. with-high s.lo s.hi i a b k g l;
    }

    pub without-low-set : i < 64
        → Members (record { lo = bit_and s.lo ((2 ^ 64 - 1) - (1 * 2 ^ i) % 2 ^ 64); hi = s.hi }) (λ k. is_in s k && not (eqb k i))
    unfolding is_in
    without-low-set l = record {
      low = and_lt 64 s.lo ((2 ^ 64 - 1) - (1 * 2 ^ i) % 2 ^ 64) a (ones_sub-lt 64 ((1 * 2 ^ i) % 2 ^ 64));
      high = b;
      are = λ k. without-low s.lo s.hi i a b k l;
    }

    pub without-high-set : 64 ≤ i → i < 128
        → Members (record { lo = s.lo; hi = bit_and s.hi ((2 ^ 64 - 1) - (1 * 2 ^ (i - 64)) % 2 ^ 64) }) (λ k. is_in s k && not (eqb k i))
    unfolding is_in
    without-high-set g l = record {
      low = a;
      high = and_lt 64 s.hi ((2 ^ 64 - 1) - (1 * 2 ^ (i - 64)) % 2 ^ 64) b (ones_sub-lt 64 ((1 * 2 ^ (i - 64)) % 2 ^ 64));
      are = λ k. without-high s.lo s.hi i a b k g l;
    }

  pub next-low-set : 0 < s.lo → Members (record { lo = bit_and s.lo (s.lo - 1); hi = s.hi }) (λ k. is_in s k && not (eqb k (count_trailing_zeros 64 s.lo)))
  next-low-set some = rw (lowest_off s.lo some a) (without-low-set (count_trailing_zeros 64 s.lo) (trailing_lt 64 s.lo some a))

  pub next-high-set : 0 < s.hi → Members (record { lo = s.lo; hi = bit_and s.hi (s.hi - 1) }) (λ k. is_in s k && not (eqb k (count_trailing_zeros 64 s.hi + 64)))
  next-high-set some =
      let t = count_trailing_zeros 64 s.hi in
      let l = trailing_lt 64 s.hi some b in
      let e : t + 64 - 64 ≡ t = omega arith in
      rw (lowest_off s.hi some b) (rw e at (without-high-set (t + 64) (omega arith) (omega (arith, l))))

  module _ (t : Vset) (a' : Word t.lo) (b' : Word t.hi) where
    pub both-set : Members (record { lo = bit_and s.lo t.lo; hi = bit_and s.hi t.hi }) (λ k. is_in s k && is_in t k)
    unfolding is_in
    both-set = record {
      low = and_lt 64 s.lo t.lo a a';
      high = and_lt 64 s.hi t.hi b b';
      are = both-has s.lo s.hi t.lo t.hi a b a' b';
    }

    pub either-set : Members (record { lo = bit_or s.lo t.lo; hi = bit_or s.hi t.hi }) (λ k. is_in s k || is_in t k)
    unfolding is_in
    either-set = record {
      low = or_lt 64 s.lo t.lo a a';
      high = or_lt 64 s.hi t.hi b b';
      are = either-has s.lo s.hi t.lo t.hi a b a' b';
    }

    pub minus-set : Members (record { lo = bit_and s.lo ((2 ^ 64 - 1) - t.lo); hi = bit_and s.hi ((2 ^ 64 - 1) - t.hi) }) (λ k. is_in s k && not (is_in t k))
    unfolding is_in
    minus-set = record {
      low = and_lt 64 s.lo ((2 ^ 64 - 1) - t.lo) a (ones_sub-lt 64 t.lo);
      high = and_lt 64 s.hi ((2 ^ 64 - 1) - t.hi) b (ones_sub-lt 64 t.hi);
      are = minus-has s.lo s.hi t.lo t.hi a b a' b';
    }
