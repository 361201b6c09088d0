-- Tests: and, or, not, and the number 1 or 0 of a test. Over any Bools.
use mathlib.Core.Path.{◌≡◌, refl, sym}
use mathlib.Core.Logic.{◌⊎◌, inl, inr}
use mathlib.Core.Bool.{Bool, true, false, not, ◌&&◌, ◌||◌}
use Prim.Native.Nat.{ℕ, zero, suc, ◌≤◌, ◌<◌, zero-le, suc-le-suc}
use native.Mathlib.Omega.{arith}
use Rattle.std.specs.Int.{from_bool}
use Rattle.model.specs.Places.{bit}

pub clash : {b : Bool} → b ≡ true → b ≡ false → ⊥
clash p q = let z : ◌≡◌ {A = ℕ} 0 1 = cc in omega arith

-- what `from` makes of a test
pub bit_is : (b : Bool) → from_bool b ≡ bit b
bit_is true = refl
bit_is false = refl

pub cases : (b : Bool) → (b ≡ true) ⊎ (b ≡ false)
cases true = inl refl
cases false = inr refl

pub le-or-lt : (a b : ℕ) → (a ≤ b) ⊎ (b < a)
le-or-lt zero b = inl zero-le
le-or-lt (suc a) zero = inr (suc-le-suc zero-le)
le-or-lt (suc a) (suc b) = go (le-or-lt a b)
  where
    go : (a ≤ b) ⊎ (b < a) → (suc a ≤ suc b) ⊎ (suc b < suc a)
    go (inl p) = inl (suc-le-suc p)
    go (inr q) = inr (suc-le-suc q)

-- a test that does not hold, one whose opposite holds
pub not-true : (b : Bool) → (b ≡ true → ⊥) → b ≡ false
not-true true f = absurd (f refl)
not-true false f = refl

pub true-not : (b : Bool) → b ≡ false → not b ≡ true
true-not true e = absurd (clash refl e)
true-not false e = refl

pub not-is-true : (b : Bool) → not b ≡ true → b ≡ false
not-is-true true e = absurd (clash e refl)
not-is-true false e = refl

pub not-false : (b : Bool) → not b ≡ false → b ≡ true
not-false true e = refl
not-false false e = absurd (clash refl e)

pub both : (a b : Bool) → a ≡ true → b ≡ true → a && b ≡ true
both true b p q = q
both false b p q = absurd (clash p refl)

pub left-of : (a b : Bool) → a && b ≡ true → a ≡ true
left-of true b e = refl
left-of false b e = e

pub right_of : (a b : Bool) → a && b ≡ true → b ≡ true
right_of true b e = e
right_of false b e = absurd (clash e refl)

-- of two that do not both hold: where the first does, the second does not
pub not-second : (a b : Bool) → a && b ≡ false → a ≡ true → b ≡ false
not-second true b e p = e
not-second false b e p = absurd (clash p refl)

pub or_left : (a b : Bool) → a ≡ true → a || b ≡ true
or_left true b e = refl
or_left false b e = absurd (clash e refl)

pub or_right : (a b : Bool) → b ≡ true → a || b ≡ true
or_right true b e = refl
or_right false b e = e

pub or_cases : (a b : Bool) → a || b ≡ true → (a ≡ true) ⊎ (b ≡ true)
or_cases true b e = inl refl
or_cases false b e = inr e

pub or_neither : (a b : Bool) → a || b ≡ false → (a ≡ false) × (b ≡ false)
or_neither true b e = absurd (clash refl e)
or_neither false b e = (refl, e)

-- "not a, or b" is "a implies b"
pub imp : (a b : Bool) → not a || b ≡ true → a ≡ true → b ≡ true
imp true b e p = e
imp false b e p = absurd (clash p refl)

pub imp_intro : (a b : Bool) → (a ≡ true → b ≡ true) → not a || b ≡ true
imp_intro true b f = f refl
imp_intro false b f = refl

-- tests that imply each other are equal
pub same_test : (a b : Bool) → (a ≡ true → b ≡ true) → (b ≡ true → a ≡ true) → a ≡ b
same_test true b f g = sym (f refl)
same_test false true f g = g refl
same_test false false f g = refl

pub bit-one : (b : Bool) → b ≡ true → bit b ≡ 1
bit-one true e = refl
bit-one false e = absurd (clash e refl)

pub bit-zero : (b : Bool) → b ≡ false → bit b ≡ 0
bit-zero true e = absurd (clash refl e)
bit-zero false e = refl

pub bit_le : (b : Bool) → bit b ≤ 1
bit_le true = omega arith
bit_le false = omega arith

pub bit_mono : (a b : Bool) → (a ≡ true → b ≡ true) → bit a ≤ bit b
bit_mono true b f = omega (arith, bit-one b (f refl))
bit_mono false b f = zero-le
