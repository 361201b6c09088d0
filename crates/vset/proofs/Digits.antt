-- A number's binary digits, over every width: the operations, places, a single digit, the complement; how many digits are 1, and
-- which is the lowest.
use mathlib.Core.Path.{◌≡◌, refl, sym, ap, ap₂, ◌∙◌, subst, fun_ext}
use mathlib.Core.Logic.{⊎_elim}
use mathlib.Core.Bool.{Bool, true, false, not, ◌&&◌, ◌||◌}
use Prim.Native.Nat.{ℕ, zero, suc, ◌+◌, ◌-◌, ◌*◌, ◌/◌, ◌%◌, ◌^◌, ◌≤◌, ◌<◌, zero-le, suc-le-suc}
use native.Mathlib.Nat.{div-add-mod', zero-div, div-eq_of_lt, div-one, mod-lt, mod-eq_of_lt, add-zero, add_comm, one-mul, mul_assoc, lt_of_lt_of_le, add-mul-div_right, add-mul-mod_self_right, div-div-eq-div-mul, pow-succ', pow-suc}
use native.Mathlib.Omega.{arith}
use native.Mathlib.Numerals.{add-one}
use lib.Dec.{eqb, eqb-suc-suc, eqb-suc-zero, lit<}
use lib.Bits.{bit_and, bit_or, bit_xor, and_shr, and_mod, or_shr, or_mod, xor_shr, xor_mod, xor_add_and, and_comm, and_mask}
use lib.Arith.{lt-one}
use lib.Count.{ones, ones_step, count_trailing_zeros, under}
use lib.Pow.{pow_pos, pow_mono, pow-add, shr-shr, shr_lt, high, ones_split}
use borrow.Author.Tests.{eq-eqb, ne_eqb}
use Rattle.model.specs.Places.{pick, bit, count, first}
use Rattle.model.proofs.Bools.{le-or-lt}
use Rattle.model.proofs.Places.{count_ext, count_shift}
use Rattle.vset.specs.Members.{has}

-- ---- a digit and the operations

and-digit : (x y : ℕ) → x < 2 → y < 2 → eqb (bit_and x y) 1 ≡ eqb x 1 && eqb y 1
and-digit zero y hx hy = refl
and-digit (suc zero) zero hx hy = refl
and-digit (suc zero) (suc zero) hx hy = refl
and-digit (suc zero) (suc (suc y)) hx hy = absurd (omega arith)
and-digit (suc (suc x)) y hx hy = absurd (omega arith)

or-digit : (x y : ℕ) → x < 2 → y < 2 → eqb (bit_or x y) 1 ≡ eqb x 1 || eqb y 1
or-digit zero y hx hy = refl
or-digit (suc zero) zero hx hy = refl
or-digit (suc zero) (suc zero) hx hy = refl
or-digit (suc zero) (suc (suc y)) hx hy = absurd (omega arith)
or-digit (suc (suc x)) y hx hy = absurd (omega arith)

abbrev pub flip : Bool → Bool → Bool
flip true b = not b
flip false b = b

xor_digit : (x y : ℕ) → x < 2 → y < 2 → eqb (bit_xor x y) 1 ≡ flip (eqb x 1) (eqb y 1)
xor_digit zero y hx hy = refl
xor_digit (suc zero) zero hx hy = refl
xor_digit (suc zero) (suc zero) hx hy = refl
xor_digit (suc zero) (suc (suc y)) hx hy = absurd (omega arith)
xor_digit (suc (suc x)) y hx hy = absurd (omega arith)

-- an operation that passes through shifts and the lowest digit, digit by digit
module _ (op : ℕ → ℕ → ℕ) (on : Bool → Bool → Bool)
    (shr : (a b k : ℕ) → op a b / 2 ^ k ≡ op (a / 2 ^ k) (b / 2 ^ k))
    (low : (a b k : ℕ) → op a b % 2 ^ k ≡ op (a % 2 ^ k) (b % 2 ^ k))
    (digit : (x y : ℕ) → x < 2 → y < 2 → eqb (op x y) 1 ≡ on (eqb x 1) (eqb y 1)) where
  has-op : (a b i : ℕ) → has (op a b) i ≡ on (has a i) (has b i)
  unfolding has
  has-op a b i =
      ap (λ (x : ℕ). eqb (x % 2) 1) (shr a b i)
      ∙ ap (λ (x : ℕ). eqb x 1) (low (a / 2 ^ i) (b / 2 ^ i) 1)
      ∙ digit (a / 2 ^ i % 2) (b / 2 ^ i % 2) (mod-lt (a / 2 ^ i) (lit< tt)) (mod-lt (b / 2 ^ i) (lit< tt))

pub has-and : (a b i : ℕ) → has (bit_and a b) i ≡ has a i && has b i
has-and = has-op bit_and ◌&&◌ and_shr and_mod and-digit

pub has-or : (a b i : ℕ) → has (bit_or a b) i ≡ has a i || has b i
has-or = has-op bit_or ◌||◌ or_shr or_mod or-digit

pub has_xor : (a b i : ℕ) → has (bit_xor a b) i ≡ flip (has a i) (has b i)
has_xor = has-op bit_xor flip xor_shr xor_mod xor_digit

-- ---- places

pub has-zero : (i : ℕ) → has 0 i ≡ false
unfolding has
has-zero i = ap (λ (x : ℕ). eqb (x % 2) 1) (zero-div (2 ^ i))

pub has-suc : (w i : ℕ) → has w (suc i) ≡ has (w / 2) i
unfolding has
has-suc w i = ap (λ (x : ℕ). eqb (x % 2) 1) (ap (λ (x : ℕ). w / x) (pow-succ' 2 i) ∙ sym (div-div-eq-div-mul w 2 (2 ^ i)))

pub has_first : (w : ℕ) → has w 0 ≡ eqb (w % 2) 1
unfolding has
has_first w = ap (λ (x : ℕ). eqb (x % 2) 1) (div-one w)

-- no digit at or past the width
pub has_above : (k w i : ℕ) → w < 2 ^ k → k ≤ i → has w i ≡ false
unfolding has
has_above k w i h l = ap (λ (x : ℕ). eqb (x % 2) 1) (div-eq_of_lt (lt_of_lt_of_le h (pow_mono l)))

-- the digits of hi stand above the k digits of lo
pub has-high : (k hi lo j : ℕ) → lo < 2 ^ k → has (hi * 2 ^ k + lo) (k + j) ≡ has hi j
unfolding has
has-high k hi lo j h =
    ap (λ (x : ℕ). eqb (x % 2) 1) (sym (shr-shr (hi * 2 ^ k + lo) k j) ∙ ap (λ (x : ℕ). x / 2 ^ j) (high hi k h))

low-at : (j i hi lo : ℕ) → (hi * 2 ^ (suc j + i) + lo) / 2 ^ i % 2 ≡ lo / 2 ^ i % 2
low-at j i hi lo =
    ap (λ (x : ℕ). (hi * x + lo) / 2 ^ i % 2) (pow-add 2 (suc j) i)
    ∙ ap (λ (x : ℕ). (x + lo) / 2 ^ i % 2) (sym (mul_assoc hi (2 ^ suc j) (2 ^ i)))
    ∙ ap (λ (x : ℕ). x / 2 ^ i % 2) (add_comm (hi * 2 ^ suc j * 2 ^ i) lo)
    ∙ ap (λ (x : ℕ). x % 2) (add-mul-div_right lo (hi * 2 ^ suc j) (pow_pos i))
    ∙ ap (λ (x : ℕ). (lo / 2 ^ i + x) % 2) (ap (λ (x : ℕ). hi * x) (pow-suc 2 j) ∙ sym (mul_assoc hi (2 ^ j) 2))
    ∙ add-mul-mod_self_right (lo / 2 ^ i) (hi * 2 ^ j) 2

pub has-low : (k hi lo i : ℕ) → i < k → has (hi * 2 ^ k + lo) i ≡ has lo i
unfolding has
has-low k hi lo i l =
    ap (λ (x : ℕ). eqb ((hi * 2 ^ x + lo) / 2 ^ i % 2) 1) e ∙ ap (λ (x : ℕ). eqb x 1) (low-at (k - suc i) i hi lo)
  where
    e : k ≡ suc (k - suc i) + i
    e = omega arith

-- ---- a single digit

has_one : (d : ℕ) → has 1 d ≡ eqb d 0
unfolding has
has_one zero = refl
has_one (suc d) = has_above 1 1 (suc d) (lit< tt) (suc-le-suc zero-le) ∙ sym (ne_eqb (suc d) 0 (λ e. omega arith))

pub has-pow : (j i : ℕ) → has (2 ^ j) i ≡ eqb i j
has-pow j i = ap (λ (x : ℕ). has x i) whole ∙ ⊎_elim at past (le-or-lt j i)
  where
    whole : 2 ^ j ≡ 1 * 2 ^ j + 0
    whole = sym (add-zero (1 * 2 ^ j) ∙ one-mul (2 ^ j))

    at : j ≤ i → has (1 * 2 ^ j + 0) i ≡ eqb i j
    at l =
        let e : i ≡ j + (i - j) = omega arith in
        ap (λ (x : ℕ). has (1 * 2 ^ j + 0) x) e ∙ has-high j 1 0 (i - j) (pow_pos j) ∙ has_one (i - j) ∙ same (i - j) i j e
      where
        same : (d i j : ℕ) → i ≡ j + d → eqb d 0 ≡ eqb i j
        same zero i j e = sym (eq-eqb i j (omega arith))
        same (suc d) i j e = ne_eqb (suc d) 0 (λ q. omega arith) ∙ sym (ne_eqb i j (λ q. omega arith))

    past : i < j → has (1 * 2 ^ j + 0) i ≡ eqb i j
    past l = has-low j 1 0 i l ∙ has-zero i ∙ sym (ne_eqb i j (λ q. omega arith))

-- ---- the complement at a width

pub not_xor : (k a : ℕ) → a < 2 ^ k → (2 ^ k - 1) - a ≡ bit_xor (2 ^ k - 1) a
not_xor k a h =
    let m : bit_and (2 ^ k - 1) a ≡ a = and_comm (2 ^ k - 1) a ∙ and_mask a k ∙ mod-eq_of_lt h in
    omega (arith, xor_add_and (2 ^ k - 1) a, m)

has-ones-at : (j i : ℕ) → has (2 ^ (suc j + i) - 1) i ≡ true
has-ones-at j i =
    ap (λ (x : ℕ). has x i) (ones_split (suc j) i)
    ∙ ap (has ((2 ^ suc j - 1) * 2 ^ i + (2 ^ i - 1))) (sym (add-zero i))
    ∙ has-high i (2 ^ suc j - 1) (2 ^ i - 1) 0 (omega (arith, pow_pos i))
    ∙ ap (λ (x : ℕ). has (2 ^ x - 1) 0) (sym (add-one j))
    ∙ ap (λ (x : ℕ). has x 0) (ones_split j 1)
    ∙ has-low 1 (2 ^ j - 1) 1 0 (lit< tt)
    ∙ has_one 0

pub has-ones : (k i : ℕ) → i < k → has (2 ^ k - 1) i ≡ true
has-ones k i l = ap (λ (x : ℕ). has (2 ^ x - 1) i) e ∙ has-ones-at (k - suc i) i
  where
    e : k ≡ suc (k - suc i) + i
    e = omega arith

pub has-not : (k a i : ℕ) → a < 2 ^ k → i < k → has ((2 ^ k - 1) - a) i ≡ not (has a i)
has-not k a i h l =
    ap (λ (x : ℕ). has x i) (not_xor k a h) ∙ has_xor (2 ^ k - 1) a i ∙ ap (λ (b : Bool). flip b (has a i)) (has-ones k i l)

-- `a & !b`, at every place
pub has-and-not : (k a b i : ℕ) → a < 2 ^ k → b < 2 ^ k → has (bit_and a ((2 ^ k - 1) - b)) i ≡ has a i && not (has b i)
has-and-not k a b i ha hb = has-and a ((2 ^ k - 1) - b) i ∙ ⊎_elim out into (le-or-lt k i)
  where
    out : k ≤ i → has a i && has ((2 ^ k - 1) - b) i ≡ has a i && not (has b i)
    out l = ap (λ (x : Bool). x && has ((2 ^ k - 1) - b) i) (has_above k a i ha l) ∙ sym (ap (λ (x : Bool). x && not (has b i)) (has_above k a i ha l))

    into : i < k → has a i && has ((2 ^ k - 1) - b) i ≡ has a i && not (has b i)
    into l = ap (λ (x : Bool). has a i && x) (has-not k b i hb l)

-- ---- how many digits are 1

pub digit-one : (x : ℕ) → x < 2 → bit (eqb x 1) ≡ x
digit-one zero h = refl
digit-one (suc zero) h = refl
digit-one (suc (suc x)) h = absurd (omega arith)

pub half_lt : (k w : ℕ) → w < 2 ^ suc k → w / 2 < 2 ^ k
half_lt k w h = shr_lt k 1 (subst (λ (x : ℕ). w < 2 ^ x) (sym (add-one k)) h)

pub ones-count : (k w : ℕ) → w < 2 ^ k → ones w ≡ count (has w) k
unfolding ones count
ones-count zero w h = ap ones (lt-one h)
ones-count (suc k) w h =
    ones_step w
    ∙ ap₂ (λ (x y : ℕ). x + y)
    (sym (ap bit (has_first w) ∙ digit-one (w % 2) (mod-lt w (lit< tt))))
    (ones-count k (w / 2) (half_lt k w h) ∙ count_ext (has (w / 2)) (λ i. has w (suc i)) k (λ i l. sym (has-suc w i)))
    ∙ sym (count_shift (has w) k)

-- ---- the digits say which number it is

pub has_ext : (k a b : ℕ) → a < 2 ^ k → b < 2 ^ k → ((i : ℕ) → has a i ≡ has b i) → a ≡ b
has_ext zero a b ha hb e = lt-one ha ∙ sym (lt-one hb)
has_ext (suc k) a b ha hb e =
    let ih = has_ext k (a / 2) (b / 2) (half_lt k a ha) (half_lt k b hb) (λ i. sym (has-suc a i) ∙ e (suc i) ∙ has-suc b i) in
    let d : a % 2 ≡ b % 2 =
    sym (digit-one (a % 2) (mod-lt a (lit< tt))) ∙ ap bit (sym (has_first a) ∙ e 0 ∙ has_first b) ∙ digit-one (b % 2) (mod-lt b (lit< tt)) in
    sym (div-add-mod' a 2) ∙ ap₂ (λ (x y : ℕ). x * 2 + y) ih d ∙ div-add-mod' b 2

-- ---- the lowest digit that is 1

pub trailing_first : (k w : ℕ) → count_trailing_zeros k w ≡ first (has w) k
unfolding count_trailing_zeros first
trailing_first zero w = refl
trailing_first (suc k) w =
    turn (w % 2) (count_trailing_zeros k (w / 2)) (mod-lt w (lit< tt))
    ∙ ap₂ (λ (b : Bool) (x : ℕ). pick b zero (suc x)) (sym (has_first w))
    (trailing_first k (w / 2) ∙ ap (λ (p : ℕ → Bool). first p k) (fun_ext (λ i. sym (has-suc w i))))
  where
    turn : (d t : ℕ) → d < 2 → under d t ≡ pick (eqb d 1) zero (suc t)
    turn zero t h = refl
    turn (suc zero) t h = refl
    turn (suc (suc d)) t h = absurd (omega arith)

-- a number that is not 0 has one
pub trailing_lt : (k w : ℕ) → 0 < w → w < 2 ^ k → count_trailing_zeros k w < k
unfolding count_trailing_zeros
trailing_lt zero w some h = absurd (omega (arith, lt-one h))
trailing_lt (suc k) w some h = go (w % 2) refl (λ l. trailing_lt k (w / 2) l (half_lt k w h))
  where
    go : (d : ℕ) → w % 2 ≡ d → (0 < w / 2 → count_trailing_zeros k (w / 2) < k) → under d (count_trailing_zeros k (w / 2)) < suc k
    go zero e ih = suc-le-suc (ih (omega arith))
    go (suc d) e ih = suc-le-suc zero-le

-- `w & (w - 1)`: less 1, the digits above the lowest 1 stay, and that one becomes 0
pub has-less : (k w i : ℕ) → 0 < w → w < 2 ^ k → has w i && has (w - 1) i ≡ has w i && not (eqb i (count_trailing_zeros k w))
unfolding count_trailing_zeros
has-less zero w i some h = absurd (omega (arith, lt-one h))
has-less (suc k) w zero some h = ap₂ ◌&&◌ (has_first w) (has_first (w - 1)) ∙ go (w % 2) refl ∙ ap (λ (b : Bool). b && not (eqb zero (under (w % 2) (count_trailing_zeros k (w / 2))))) (sym (has_first w))
  where
    go : (d : ℕ) → w % 2 ≡ d → eqb (w % 2) 1 && eqb ((w - 1) % 2) 1 ≡ eqb (w % 2) 1 && not (eqb zero (under (w % 2) (count_trailing_zeros k (w / 2))))
    go zero e = rw e refl
    go (suc d) e = let z : (w - 1) % 2 ≡ 0 = omega arith in rw (e, z) refl
has-less (suc k) w (suc i) some h =
    ap₂ ◌&&◌ (has-suc w i) (has-suc (w - 1) i) ∙ go (w % 2) refl (λ l. has-less k (w / 2) i l (half_lt k w h))
    ∙ ap (λ (b : Bool). b && not (eqb (suc i) (under (w % 2) (count_trailing_zeros k (w / 2))))) (sym (has-suc w i))
  where
    same : (b : Bool) → b && b ≡ b && true
    same true = refl
    same false = refl

    go : (d : ℕ) → w % 2 ≡ d → (0 < w / 2 → has (w / 2) i && has (w / 2 - 1) i ≡ has (w / 2) i && not (eqb i (count_trailing_zeros k (w / 2))))
        → has (w / 2) i && has ((w - 1) / 2) i ≡ has (w / 2) i && not (eqb (suc i) (under (w % 2) (count_trailing_zeros k (w / 2))))
    go zero e ih = let z : (w - 1) / 2 ≡ w / 2 - 1 = omega arith in rw (e, z, eqb-suc-suc i (count_trailing_zeros k (w / 2))) (ih (omega arith))
    go (suc d) e ih = let z : (w - 1) / 2 ≡ w / 2 = omega arith in rw (e, z, eqb-suc-zero i) (same (has (w / 2) i))
