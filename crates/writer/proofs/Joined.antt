-- Lists of 8 bytes, one after the other: where each byte stands, and the table that they are laid in.
use mathlib.Core.Path.{◌≡◌, refl, sym, ap, ◌∙◌}
use mathlib.Core.List.{List, [], ◌++◌, append_assoc, append-nil}
use Prim.Native.Nat.{ℕ, zero, suc, ◌+◌, ◌-◌, ◌*◌, ◌≤◌, ◌<◌}
use native.Mathlib.Numerals.{add-one}
use native.Mathlib.Omega.{arith}
use native.Mathlib.Decide.{ℕ_discrete}
use lib.ListN.{length, get_or, take, drop, replicate, length-append, length-replicate, get_or-append, replicate-append-replicate, drop_of_length-le}
use lib.Seq.{take_at, drop_at, take_all, get_or-append-add}
use lib.Dec.{ltb}
use borrow.Author.Tests.{lt-ltb, le-ltb}
use Rattle.model.specs.Places.{pick}
use Rattle.writer.specs.Write.{joined}
use Rattle.writer.specs.Image.{imaged}

pub joined_ext : (f h : ℕ → List ℕ) (n : ℕ) → ((k : ℕ) → k < n → f k ≡ h k) → joined f n ≡ joined h n
unfolding joined
joined_ext f h zero e = refl
joined_ext f h (suc n) e = rw (e n (omega arith), joined_ext f h n (λ k l. e k (omega arith))) refl

-- two runs of lists are one
pub joined-append : (f h : ℕ → List ℕ) (a b : ℕ) → joined f a ++ joined h b ≡ joined (λ k. pick (ltb k a) (f k) (h (k - a))) (a + b)
unfolding joined
joined-append f h a zero =
    let e : a + 0 ≡ a = omega arith in
    rw e (append-nil (joined f a) ∙ joined_ext f (λ k. pick (ltb k a) (f k) (h (k - a))) a (λ k l. rw (lt-ltb k a l) refl))
joined-append f h a (suc b) =
    let e : a + suc b ≡ suc (a + b) = omega arith in
    let d : a + b - a ≡ b = omega arith in
    rw (e, le-ltb (a + b) a (omega arith), d) (sym (append_assoc (joined f a) (joined h b) (h b)) ∙ ap (λ (x : List ℕ). x ++ h b) (joined-append f h a b))

module _ (f : ℕ → List ℕ) (eight : (k : ℕ) → length (f k) ≡ 8) where
  pub joined_length : (n : ℕ) → length (joined f n) ≡ 8 * n
  unfolding joined
  joined_length zero = refl
  joined_length (suc n) = length-append (joined f n) (f n) ∙ rw (joined_length n, eight n) (omega arith)

  pub joined_at : (n k j : ℕ) → k < n → j < 8 → get_or (joined f n) (8 * k + j) 0 ≡ get_or (f k) j 0
  unfolding joined
  joined_at zero k j l h = absurd (omega arith)
  joined_at (suc n) k j l h = go (ℕ_discrete k n) (λ m. joined_at n k j m h)
    where
      go : Dec (k ≡ n) → (k < n → get_or (joined f n) (8 * k + j) 0 ≡ get_or (f k) j 0) → get_or (joined f n ++ f n) (8 * k + j) 0 ≡ get_or (f k) j 0
      go (yes e) ih = rw (e, ← joined_length n) (get_or-append-add (joined f n) (f n) j 0)
      go (no x) ih = get_or-append (joined f n) (f n) 0 (8 * k + j) (rw (joined_length n) (omega arith)) ∙ ih (omega arith)

-- ---- the table that the records are laid in

pub imaged-none : (f : ℕ → List ℕ) → replicate 9320 0 ≡ imaged f 0
unfolding imaged joined
imaged-none f = refl

zeros-past : (i n : ℕ) → drop i (replicate {A = ℕ} (i + n) 0) ≡ replicate n 0
zeros-past i n = rw (← replicate-append-replicate {A = ℕ} i n 0) (drop_at (replicate i 0) (replicate n 0) i (length-replicate {A = ℕ} i 0))

module _ (f : ℕ → List ℕ) (eight : (k : ℕ) → length (f k) ≡ 8) where
  pub imaged-length : (n : ℕ) → n ≤ 1165 → length (imaged f n) ≡ 9320
  unfolding imaged
  imaged-length n l = length-append (joined f n) (replicate (9320 - 8 * n) 0) ∙ rw (joined_length f eight n, length-replicate) (omega arith)

  pub imaged-take : (n : ℕ) → take (8 * n) (imaged f n) ≡ joined f n
  unfolding imaged
  imaged-take n = take_at (joined f n) (replicate (9320 - 8 * n) 0) (8 * n) (joined_length f eight n)

  imaged-drop : (n : ℕ) → drop (8 * n) (imaged f n) ≡ replicate (9320 - 8 * n) 0
  unfolding imaged
  imaged-drop n = drop_at (joined f n) (replicate (9320 - 8 * n) 0) (8 * n) (joined_length f eight n)

  -- record n copied to the front of what lies past the first n
  pub imaged-more : (n : ℕ) → n < 1165
      → take (8 * n) (imaged f n) ++ ((f n ++ drop 8 (take (9320 - 8 * n) (drop (8 * n) (imaged f n)))) ++ drop (9320 - 8 * n) (drop (8 * n) (imaged f n)))
      ≡ imaged f (n + 1)
  unfolding joined imaged
  imaged-more n l =
      let m : ℕ = 9320 - 8 * n in
      let z : List ℕ = replicate m 0 in
      let e : m ≡ 8 + (9320 - 8 * suc n) = omega arith in
      let w : length z ≡ m = length-replicate {A = ℕ} m 0 in
      let h : length z ≤ m = omega arith in
      let d : drop m z ≡ [] = drop_of_length-le z h in
      let x : drop 8 z ≡ replicate (9320 - 8 * suc n) 0 = rw e (zeros-past 8 (9320 - 8 * suc n)) in
      rw (add-one n, imaged-take n, imaged-drop n, take_all m z (omega arith), d, x)
      (ap (λ (y : List ℕ). joined f n ++ y) (append-nil (f n ++ replicate (9320 - 8 * suc n) 0)) ∙ sym (append_assoc (joined f n) (f n) (replicate (9320 - 8 * suc n) 0)))
