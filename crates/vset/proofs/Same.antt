-- A set's members say which set it is: two sets of words with the same members are one, and there is one for every test.
use mathlib.Core.Path.{◌≡◌, sym, ap, ap₂, ◌∙◌}
use mathlib.Core.Logic.{⊎_elim}
use mathlib.Core.Bool.{Bool, true, false, ◌&&◌, and-false}
use Prim.Native.Nat.{ℕ, zero, suc, ◌+◌, ◌-◌, ◌*◌, ◌/◌, ◌%◌, ◌^◌, ◌≤◌, ◌<◌}
use native.Mathlib.Nat.{add_comm, pow-suc}
use native.Mathlib.Omega.{arith}
use lib.Arith.{digits_div, digits_mod}
use lib.Dec.{eqb, ltb, lit<}
use lib.Pow.{pow_pos}
use borrow.Author.Tests.{lt-ltb, le-ltb, eq-eqb, ne_eqb}
use native.Mathlib.Decide.{ℕ_discrete}
use Rattle.model.specs.Places.{bit, sum}
use Rattle.model.proofs.Bools.{le-or-lt}
use Rattle.vset.specs.Members.{has, num, is_in, Members, word_of, set_of}
use Rattle.vset.specs.declared.Vset.{Vset}
use Rattle.vset.proofs.Digits.{has_ext, has-zero, has_first, has_above, has-low, has-high}
use Rattle.vset.proofs.Words.{Word, num-lt, test_low, test-high, past-none}

num_lo : (lo hi lo' hi' : ℕ) → Word lo → Word lo' → num lo hi ≡ num lo' hi' → lo ≡ lo'
unfolding num
num_lo lo hi lo' hi' a b e = sym (digits_mod hi a) ∙ ap (λ (x : ℕ). x % 2 ^ 64) e ∙ digits_mod hi' b

num_hi : (lo hi lo' hi' : ℕ) → Word lo → Word lo' → num lo hi ≡ num lo' hi' → hi ≡ hi'
unfolding num
num_hi lo hi lo' hi' a b e = sym (digits_div hi a) ∙ ap (λ (x : ℕ). x / 2 ^ 64) e ∙ digits_div hi' b

pub same_set : (s t : Vset) (p : ℕ → Bool) → Members s p → Members t p → s ≡ t
unfolding is_in
same_set s t p a b =
    let n = has_ext 128 (num s.lo s.hi) (num t.lo t.hi) (num-lt _ _ a.low a.high) (num-lt _ _ b.low b.high) (λ k. a.are k ∙ sym (b.are k)) in
    ap₂ {C = Vset} (λ (x y : ℕ). record { lo = x; hi = y }) (num_lo _ _ _ _ a.low b.low n) (num_hi _ _ _ _ a.low b.low n)

-- ---- the set of a test

word_lt : (p : ℕ → Bool) (n : ℕ) → word_of p n < 2 ^ n
unfolding word_of sum
word_lt p zero = lit< tt
word_lt p (suc n) = go (p n) (word_lt p n)
  where
    go : (b : Bool) → word_of p n < 2 ^ n → word_of p n + bit b * 2 ^ n < 2 ^ suc n
    go true ih = rw (pow-suc 2 n) (omega arith)
    go false ih = rw (pow-suc 2 n) (omega (arith, pow_pos n))

has-bit : (b : Bool) (j : ℕ) → has (bit b) j ≡ eqb j 0 && b
has-bit true zero = has_first 1
has-bit true (suc j) = has_above 1 1 (suc j) (lit< tt) (omega arith) ∙ sym (ap (λ (x : Bool). x && true) (ne_eqb (suc j) 0 (λ e. omega arith)))
has-bit false j = has-zero j ∙ sym (and-false (eqb j 0))

has_word : (p : ℕ → Bool) (n k : ℕ) → has (word_of p n) k ≡ ltb k n && p k
unfolding word_of sum
has_word p zero k = has-zero k ∙ sym (ap (λ (b : Bool). b && p k) (le-ltb k 0 (omega arith)))
has_word p (suc n) k =
    ap (λ (x : ℕ). has x k) (add_comm (word_of p n) (bit (p n) * 2 ^ n))
    ∙ ⊎_elim past (below (has_word p n k)) (le-or-lt n k)
  where
    below : has (word_of p n) k ≡ ltb k n && p k → k < n → has (bit (p n) * 2 ^ n + word_of p n) k ≡ ltb k (suc n) && p k
    below ih l =
        has-low n (bit (p n)) (word_of p n) k l ∙ ih
        ∙ ap (λ (b : Bool). b && p k) (lt-ltb k n l ∙ sym (lt-ltb k (suc n) (omega arith)))

    past : n ≤ k → has (bit (p n) * 2 ^ n + word_of p n) k ≡ ltb k (suc n) && p k
    past l =
        let e : k ≡ n + (k - n) = omega arith in
        ap (has (bit (p n) * 2 ^ n + word_of p n)) e ∙ has-high n (bit (p n)) (word_of p n) (k - n) (word_lt p n) ∙ has-bit (p n) (k - n)
        ∙ at (ℕ_discrete k n)
      where
        at : Dec (k ≡ n) → eqb (k - n) 0 && p n ≡ ltb k (suc n) && p k
        at (yes q) = ap₂ ◌&&◌ (eq-eqb (k - n) 0 (omega arith) ∙ sym (lt-ltb k (suc n) (omega arith))) (ap p (sym q))
        at (no q) =
            ap (λ (b : Bool). b && p n) (ne_eqb (k - n) 0 (λ z. q (omega arith)))
            ∙ sym (ap (λ (b : Bool). b && p k) (le-ltb k (suc n) (omega arith)))

pub set-members : (p : ℕ → Bool) → Members (set_of p) (λ k. ltb k 128 && p k)
unfolding set_of is_in
set-members p = record {
  low = word_lt p 64;
  high = word_lt (λ i. p (64 + i)) 64;
  are = λ k. ⊎_elim (high k) (low k) (le-or-lt 64 k);
}
  where
    low : (k : ℕ) → k < 64 → has (num (word_of p 64) (word_of (λ i. p (64 + i)) 64)) k ≡ ltb k 128 && p k
    low k l =
        test_low (word_of p 64) (word_of (λ i. p (64 + i)) 64) k l ∙ has_word p 64 k
        ∙ ap (λ (b : Bool). b && p k) (lt-ltb k 64 l ∙ sym (lt-ltb k 128 (omega arith)))

    high : (k : ℕ) → 64 ≤ k → has (num (word_of p 64) (word_of (λ i. p (64 + i)) 64)) k ≡ ltb k 128 && p k
    high k l =
        let e : 64 + (k - 64) ≡ k = omega arith in
        test-high (word_of p 64) (word_of (λ i. p (64 + i)) 64) k (word_lt p 64) l ∙ has_word (λ i. p (64 + i)) 64 (k - 64)
        ∙ ap₂ ◌&&◌ (⊎_elim (λ (h : 128 ≤ k). le-ltb (k - 64) 64 (omega arith) ∙ sym (le-ltb k 128 h))
        (λ (h : k < 128). lt-ltb (k - 64) 64 (omega arith) ∙ sym (lt-ltb k 128 h)) (le-or-lt 128 k)) (ap p e)

-- a set is the set of its members
pub set-of : (s : Vset) (p : ℕ → Bool) → Members s p → s ≡ set_of p
set-of s p m =
    let q = set-members p in
    same_set s (set_of p) p m (record { low = q.low; high = q.high; are = λ k. q.are k ∙ cut k })
  where
    cut : (k : ℕ) → ltb k 128 && p k ≡ p k
    cut k =
        ⊎_elim
        (λ (h : 128 ≤ k). ap (λ (b : Bool). b && p k) (le-ltb k 128 h) ∙ sym (sym (m.are k) ∙ past-none s m.low m.high k h))
        (λ (h : k < 128). ap (λ (b : Bool). b && p k) (lt-ltb k 128 h))
        (le-or-lt 128 k)

pub set_in : (p : ℕ → Bool) → ((k : ℕ) → 128 ≤ k → p k ≡ false) → (k : ℕ) → is_in (set_of p) k ≡ p k
set_in p past k =
    (set-members p).are k
    ∙ ⊎_elim
    (λ (h : 128 ≤ k). ap (λ (b : Bool). b && p k) (le-ltb k 128 h) ∙ sym (past k h))
    (λ (h : k < 128). ap (λ (b : Bool). b && p k) (lt-ltb k 128 h))
    (le-or-lt 128 k)
