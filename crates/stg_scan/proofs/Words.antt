-- A word at the head of a rest, and the fields of the line.
use mathlib.Core.Path.{◌≡◌, refl}
use mathlib.Core.Bool.{Bool, true, false, not}
use mathlib.Core.List.{List, [], ◌∷◌, ◌++◌, append-nil}
use mathlib.Core.Logic.{◌⊎◌, inl, inr}
use Prim.Native.Nat.{ℕ, ◌<◌}
use native.Mathlib.Omega.{arith}
use lib.ListN.{length}
use Rattle.model.specs.Places.{pick}
use Rattle.model.proofs.Bools.{clash, both, left-of, right_of, or_cases, not-is-true}
use Rattle.stg_text.specs.Fields.{pieces, ahead, all, nonempty, feed, blank, fields, digit}
use Rattle.stg_scan.specs.Scan.{parts}
use Rattle.stg_scan.specs.Rest.{until_feed, has_feed, past_feed}
use Rattle.stg_text.proofs.Pieces.{free, all-mono, pieces-cut, pieces-last}
use Rattle.stg_text.proofs.Digits.{digit-no-blank, digit-no-feed}

-- the rest begins with a byte that parts, or is empty
abbrev pub stops : List ℕ → Bool
stops [] = true
stops (c ∷ r) = parts c

module _ (w : List ℕ) (f : free feed w ≡ true) where
  pub until-word : (r : List ℕ) → until_feed (w ++ r) ≡ w ++ until_feed r
  unfolding until_feed
  until-word r = go w f
    where
      go : (w : List ℕ) → free feed w ≡ true → until_feed (w ++ r) ≡ w ++ until_feed r
      go [] f = refl
      go (c ∷ w) f =
          let n : feed c ≡ false = not-is-true (feed c) (left-of (not (feed c)) (free feed w) f) in
          rw (n, go w (right_of (not (feed c)) (free feed w) f)) refl

  pub has_word : (r : List ℕ) → has_feed (w ++ r) ≡ has_feed r
  unfolding has_feed
  has_word r = go w f
    where
      go : (w : List ℕ) → free feed w ≡ true → has_feed (w ++ r) ≡ has_feed r
      go [] f = refl
      go (c ∷ w) f =
          let n : feed c ≡ false = not-is-true (feed c) (left-of (not (feed c)) (free feed w) f) in
          rw (n, go w (right_of (not (feed c)) (free feed w) f)) refl

  pub past_word : (r : List ℕ) → past_feed (w ++ r) ≡ past_feed r
  unfolding past_feed
  past_word r = go w f
    where
      go : (w : List ℕ) → free feed w ≡ true → past_feed (w ++ r) ≡ past_feed r
      go [] f = refl
      go (c ∷ w) f =
          let n : feed c ≡ false = not-is-true (feed c) (left-of (not (feed c)) (free feed w) f) in
          rw (n, go w (right_of (not (feed c)) (free feed w) f)) refl

pub nonempty-first : (w : List ℕ) (ws : List (List ℕ)) → 0 < length w → nonempty (w ∷ ws) ≡ w ∷ nonempty ws
nonempty-first [] ws l = absurd (omega arith)
nonempty-first (c ∷ w) ws l = refl

-- a word that the rest stops
pub word-field : (w r : List ℕ) → free blank w ≡ true → 0 < length w → stops r ≡ true → fields (w ++ until_feed r) ≡ w ∷ fields (until_feed r)
unfolding fields until_feed pieces parts
word-field w [] f l h = rw (append-nil w, pieces-last blank w f) (nonempty-first w [] l)
word-field w (c ∷ r) f l h = go (feed c) refl
  where
    go : (b : Bool) → feed c ≡ b → nonempty (pieces blank (w ++ pick b [] (c ∷ until_feed r))) ≡ w ∷ nonempty (pieces blank (pick b [] (c ∷ until_feed r)))
    go true e = rw (append-nil w, pieces-last blank w f) (nonempty-first w [] l)
    go false e =
        let b : blank c ≡ true = only (or_cases (blank c) (feed c) h) in
        rw (pieces-cut blank w c (until_feed r) f b, b) (nonempty-first w (pieces blank (until_feed r)) l)
      where
        only : (blank c ≡ true) ⊎ (feed c ≡ true) → blank c ≡ true
        only (inl x) = x
        only (inr x) = absurd (clash x e)

-- the first piece begins with what no byte cuts
pub pieces-some : (p : ℕ → Bool) (l : List ℕ) → (b : List ℕ) × (ws : List (List ℕ)) × (pieces p l ≡ b ∷ ws)
unfolding pieces
pieces-some p [] = ([], [], refl)
pieces-some p (c ∷ l) = go (p c) (pieces-some p l)
  where
    go : (x : Bool) → (b : List ℕ) × (ws : List (List ℕ)) × (pieces p l ≡ b ∷ ws)
        → (b : List ℕ) × (ws : List (List ℕ)) × (pick x ([] ∷ pieces p l) (ahead c (pieces p l)) ≡ b ∷ ws)
    go true r = ([], pieces p l, refl)
    go false r = (c ∷ r.0, r.1, rw r.2 refl)

pub pieces-head : (p : ℕ → Bool) (a l : List ℕ) → free p a ≡ true → (b : List ℕ) × (ws : List (List ℕ)) × (pieces p (a ++ l) ≡ (a ++ b) ∷ ws)
unfolding pieces
pieces-head p [] l f = pieces-some p l
pieces-head p (c ∷ a) l f =
    go (p c) (not-is-true (p c) (left-of (not (p c)) (free p a) f)) (pieces-head p a l (right_of (not (p c)) (free p a) f))
  where
    go : (x : Bool) → x ≡ false → (b : List ℕ) × (ws : List (List ℕ)) × (pieces p (a ++ l) ≡ (a ++ b) ∷ ws)
        → (b : List ℕ) × (ws : List (List ℕ)) × (pick x ([] ∷ pieces p (a ++ l)) (ahead c (pieces p (a ++ l))) ≡ (c ∷ (a ++ b)) ∷ ws)
    go true e r = absurd (clash refl e)
    go false e r = (r.0, r.1, rw r.2 refl)

pub all_left {ℓ} : {A : Type ℓ} (p : A → Bool) (a b : List A) → all p (a ++ b) ≡ true → all p a ≡ true
all_left p [] b h = refl
all_left p (x ∷ a) b h = both (p x) (all p a) (left-of (p x) (all p (a ++ b)) h) (all_left p a b (right_of (p x) (all p (a ++ b)) h))

pub all_right {ℓ} : {A : Type ℓ} (p : A → Bool) (a b : List A) → all p (a ++ b) ≡ true → all p b ≡ true
all_right p [] b h = h
all_right p (x ∷ a) b h = all_right p a b (right_of (p x) (all p (a ++ b)) h)

pub digits_free-blank : (w : List ℕ) → all digit w ≡ true → free blank w ≡ true
digits_free-blank w h = all-mono digit (λ c. not (blank c)) w digit-no-blank h

pub digits_free-feed : (w : List ℕ) → all digit w ≡ true → free feed w ≡ true
digits_free-feed w h = all-mono digit (λ c. not (feed c)) w digit-no-feed h
