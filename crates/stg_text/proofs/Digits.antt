-- A number in decimal: its digits are a numeral that says the number, no blank and no line feed among them.
use mathlib.Core.Path.{◌≡◌, refl, sym, ap, ◌∙◌}
use mathlib.Core.Bool.{Bool, true, false, not}
use mathlib.Core.List.{List, [], ◌∷◌, ◌++◌}
use Prim.Native.Nat.{ℕ, zero, suc, ◌+◌, ◌-◌, ◌*◌, ◌/◌, ◌%◌, ◌^◌, ◌≤◌, ◌<◌}
use native.Mathlib.Omega.{arith}
use native.Mathlib.Nat.{div-div-eq-div-mul, pow-succ', pow-suc, pow-le-pow_right}
use lib.ListN.{length, get_or, length-append, get_or-append}
use lib.Seq.{get_or-append_seam}
use lib.Dec.{ltb, leb}
use borrow.Author.Tests.{le-ltb, le-leb, leb-true, ltb-true, ltb-false, ne_eqb}
use Rattle.model.specs.Places.{pick}
use Rattle.model.proofs.Bools.{left-of, right_of, both}
use Rattle.stg_text.specs.Fields.{all, feed, blank, digit, numeral, value_from, value}
use Rattle.stg_text.specs.Canonical.{digits_of, decimal}
use Rattle.stg_text.proofs.Pieces.{free, all_append, all-mono}

-- a digit parts nothing
digit-bounds : (c : ℕ) → digit c ≡ true → (48 ≤ c) × (c ≤ 57)
unfolding digit
digit-bounds c h = (leb-true 48 c (left-of (leb 48 c) (leb c 57) h), leb-true c 57 (right_of (leb 48 c) (leb c 57) h))

pub digit-no-blank : (c : ℕ) → digit c ≡ true → not (blank c) ≡ true
unfolding blank
digit-no-blank c h =
    let b = digit-bounds c h in
    rw (ne_eqb c 32 (λ e. omega arith), ne_eqb c 9 (λ e. omega arith)) refl

pub digit-no-feed : (c : ℕ) → digit c ≡ true → not (feed c) ≡ true
unfolding feed
digit-no-feed c h = let b = digit-bounds c h in rw (ne_eqb c 10 (λ e. omega arith)) refl

-- one digit more at the end
value-more : (x : ℕ) (w : List ℕ) (c : ℕ) → value_from x (w ++ (c ∷ [])) ≡ 10 * value_from x w + (c - 48)
unfolding value_from
value-more x [] c = refl
value-more x (d ∷ w) c = value-more (10 * x + (d - 48)) w c

last-digit : (x : ℕ) → digit (48 + x % 10) ≡ true
unfolding digit
last-digit x = both (leb 48 (48 + x % 10)) (leb (48 + x % 10) 57) (le-leb 48 (48 + x % 10) (omega arith)) (le-leb (48 + x % 10) 57 (omega arith))

pub digits_digits : (k x : ℕ) → all digit (digits_of k x) ≡ true
unfolding digits_of
digits_digits zero x = refl
digits_digits (suc k) x = all_append digit (pick (ltb x 10) [] (digits_of k (x / 10))) ((48 + x % 10) ∷ []) (go (ltb x 10) (digits_digits k (x / 10))) (rw (last-digit x) refl)
  where
    go : (b : Bool) → all digit (digits_of k (x / 10)) ≡ true → all digit (pick b [] (digits_of k (x / 10))) ≡ true
    go true h = refl
    go false h = h

pub digits_value : (k x : ℕ) → x < 10 ^ k → value_from 0 (digits_of k x) ≡ x
unfolding digits_of value_from
digits_value zero x l = omega arith
digits_value (suc k) x l =
    value-more 0 (pick (ltb x 10) [] (digits_of k (x / 10))) (48 + x % 10) ∙ go (ltb x 10) refl (digits_value k (x / 10) (omega (arith, pow-suc 10 k)))
  where
    go : (b : Bool) → ltb x 10 ≡ b → value_from 0 (digits_of k (x / 10)) ≡ x / 10
        → 10 * value_from 0 (pick b [] (digits_of k (x / 10))) + ((48 + x % 10) - 48) ≡ x
    go true e ih = omega (arith, ltb-true x 10 e)
    go false e ih = omega arith

-- as many digits as are needed, and one at least
pub digits_length : (k x j : ℕ) → x < 10 ^ suc j → length (digits_of k x) ≤ suc j
unfolding digits_of
digits_length zero x j l = omega arith
digits_length (suc k) x j l = rw (length-append (pick (ltb x 10) [] (digits_of k (x / 10))) ((48 + x % 10) ∷ [])) (go (ltb x 10) refl j l (λ i m. digits_length k (x / 10) i m))
  where
    go : (b : Bool) → ltb x 10 ≡ b → (j : ℕ) → x < 10 ^ suc j → ((i : ℕ) → x / 10 < 10 ^ suc i → length (digits_of k (x / 10)) ≤ suc i)
        → length (pick b [] (digits_of k (x / 10))) + 1 ≤ suc j
    go true e j l ih = omega arith
    go false e zero l ih = absurd (omega (arith, ltb-false x 10 e))
    go false e (suc j) l ih = omega (arith, ih j (omega (arith, pow-suc 10 (suc j))))

pub digits_some : (k x : ℕ) → 0 < length (digits_of (suc k) x)
unfolding digits_of
digits_some k x = rw (length-append (pick (ltb x 10) [] (digits_of k (x / 10))) ((48 + x % 10) ∷ [])) (omega arith)

-- no fewer than are needed
digits_least : (k x j : ℕ) → j < k → 10 ^ j ≤ x → suc j ≤ length (digits_of k x)
unfolding digits_of
digits_least zero x j l h = absurd (omega arith)
digits_least (suc k) x zero l h = rw (length-append (pick (ltb x 10) [] (digits_of k (x / 10))) ((48 + x % 10) ∷ [])) (omega arith)
digits_least (suc k) x (suc j) l h =
    let some = pow-le-pow_right {n = 10} (omega arith) {i = 1} {j = suc j} (omega arith) in
    let ten : 10 ≤ x = omega arith in
    rw (length-append (pick (ltb x 10) [] (digits_of k (x / 10))) ((48 + x % 10) ∷ []), le-ltb x 10 ten)
    (omega (arith, digits_least k (x / 10) j (omega arith) (omega (arith, pow-suc 10 j))))

-- the digits from the last to the first are those that division by 10 gives
digit-place : (k x i : ℕ) → i < length (digits_of k x) → get_or (digits_of k x) (length (digits_of k x) - suc i) 0 ≡ 48 + x / 10 ^ i % 10
unfolding digits_of
digit-place zero x i l = absurd (omega arith)
digit-place (suc k) x i l = go (ltb x 10) i (rw (length-append (pick (ltb x 10) [] (digits_of k (x / 10))) ((48 + x % 10) ∷ [])) at l) (digit-place k (x / 10))
  where
    go : (b : Bool) (i : ℕ) → i < length (pick b [] (digits_of k (x / 10))) + 1 → ((i : ℕ) → i < length (digits_of k (x / 10)) → get_or (digits_of k (x / 10)) (length (digits_of k (x / 10)) - suc i) 0 ≡ 48 + x / 10 / 10 ^ i % 10)
        → get_or (pick b [] (digits_of k (x / 10)) ++ ((48 + x % 10) ∷ [])) (length (pick b [] (digits_of k (x / 10)) ++ ((48 + x % 10) ∷ [])) - suc i) 0 ≡ 48 + x / 10 ^ i % 10
    go b zero l ih =
        let a : List ℕ = pick b [] (digits_of k (x / 10)) in
        let e : length a + 1 - 1 ≡ length a = omega arith in
        let q : x / 10 ^ 0 ≡ x = omega arith in
        rw (length-append a ((48 + x % 10) ∷ []), e, q) (get_or-append_seam a (48 + x % 10) [] 0)
    go true (suc i) l ih = absurd (omega arith)
    go false (suc i) l ih =
        let a : List ℕ = digits_of k (x / 10) in
        let e : length a + 1 - suc (suc i) ≡ length a - suc i = omega arith in
        let q : x / 10 ^ suc i ≡ x / 10 / 10 ^ i = ap (λ (z : ℕ). x / z) (pow-succ' 10 i) ∙ sym (div-div-eq-div-mul x 10 (10 ^ i)) in
        rw (length-append a ((48 + x % 10) ∷ []), e, q) (get_or-append a ((48 + x % 10) ∷ []) 0 (length a - suc i) (omega arith) ∙ ih i (omega arith))

-- the first digit of a number above 0 is not 0
digits_lead : (k x : ℕ) → 0 < x → x < 10 ^ k → 48 < get_or (digits_of k x) 0 0
unfolding digits_of
digits_lead zero x p l = absurd (omega arith)
digits_lead (suc k) x p l = go (ltb x 10) refl (λ m. digits_lead k (x / 10) m (omega (arith, pow-suc 10 k)))
  where
    go : (b : Bool) → ltb x 10 ≡ b → (0 < x / 10 → 48 < get_or (digits_of k (x / 10)) 0 0) → 48 < get_or (pick b [] (digits_of k (x / 10)) ++ ((48 + x % 10) ∷ [])) 0 0
    go true e ih = omega (arith, ltb-true x 10 e)
    go false e ih =
        let m : 0 < x / 10 = omega (arith, ltb-false x 10 e) in
        let f = ih m in
        rw (get_or-append (digits_of k (x / 10)) ((48 + x % 10) ∷ []) 0 0 (some (digits_of k (x / 10)) f)) f
      where
        some : (w : List ℕ) → 48 < get_or w 0 0 → 0 < length w
        some [] h = absurd (omega arith)
        some (c ∷ w) h = omega arith

-- ---- the numbers of a text

-- a number of ten digits at most
abbrev pub Small : ℕ → Type 0
Small x = x < 10 ^ 10

pub decimal-value : (x : ℕ) → Small x → value (decimal x) ≡ x
unfolding value decimal
decimal-value x l = digits_value 10 x l

pub decimal-numeral : (x : ℕ) → Small x → numeral (decimal x) ≡ true
unfolding numeral decimal
decimal-numeral x l =
    rw (le-leb 1 (length (digits_of 10 x)) (digits_some 9 x), le-leb (length (digits_of 10 x)) 10 (digits_length 10 x 9 l), digits_digits 10 x) refl

pub decimal-free-blank : (x : ℕ) → free blank (decimal x) ≡ true
unfolding decimal
decimal-free-blank x = all-mono digit (λ c. not (blank c)) (digits_of 10 x) digit-no-blank (digits_digits 10 x)

pub decimal-free-feed : (x : ℕ) → free feed (decimal x) ≡ true
unfolding decimal
decimal-free-feed x = all-mono digit (λ c. not (feed c)) (digits_of 10 x) digit-no-feed (digits_digits 10 x)

pub decimal-some : (x : ℕ) → 0 < length (decimal x)
unfolding decimal
decimal-some x = digits_some 9 x

pub decimal-length : (x j : ℕ) → x < 10 ^ suc j → length (decimal x) ≤ suc j
unfolding decimal
decimal-length x j l = digits_length 10 x j l

pub decimal-least : (x j : ℕ) → j < 10 → 10 ^ j ≤ x → suc j ≤ length (decimal x)
unfolding decimal
decimal-least x j l h = digits_least 10 x j l h

pub decimal-place : (x i : ℕ) → i < length (decimal x) → get_or (decimal x) (length (decimal x) - suc i) 0 ≡ 48 + x / 10 ^ i % 10
unfolding decimal
decimal-place x i l = digit-place 10 x i l

-- THEOREM. No leading zero: 0 is written as the one digit 0, and the first digit of any other number is above 0.
pub decimal-zero : decimal 0 ≡ 48 ∷ []
unfolding decimal digits_of
decimal-zero = refl

pub decimal-lead : (x : ℕ) → 0 < x → Small x → 48 < get_or (decimal x) 0 0
unfolding decimal
decimal-lead x p l = digits_lead 10 x p l
