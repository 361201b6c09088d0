-- The lines of a text by what is left from each on.
use mathlib.Core.Path.{◌≡◌, refl, sym, ap, ◌∙◌}
use mathlib.Core.Bool.{Bool, true, false, not, ◌&&◌, ◌||◌}
use mathlib.Core.List.{List, [], ◌∷◌, ◌++◌, append_assoc}
use mathlib.Core.Logic.{◌⊎◌, inl, inr}
use Prim.Native.Nat.{ℕ, zero, suc, ◌+◌, ◌≤◌, ◌<◌}
use native.Mathlib.Omega.{arith}
use lib.ListN.{length, length-append}
use lib.Seq.{get_or_at}
use lib.Dec.{ltb, leb}
use borrow.Author.Tests.{lt-ltb, lt-leb, le-leb}
use Rattle.model.specs.Places.{pick, bit}
use Rattle.model.proofs.Bools.{cases, clash}
use Rattle.stg_text.specs.Fields.{pieces, ahead, feed}
use Rattle.stg_text.specs.Layout.{line_at, ended, begun, tasks, fits, faulty}
use Rattle.stg_scan.specs.Rest.{until_feed, has_feed, past_feed, rest_at}
use Rattle.stg_scan.proofs.Words.{pieces-some}

-- a rest by its first line
pieces-ended : (r : List ℕ) → has_feed r ≡ true → pieces feed r ≡ until_feed r ∷ pieces feed (past_feed r)
unfolding pieces until_feed has_feed past_feed
pieces-ended [] h = absurd (clash h refl)
pieces-ended (c ∷ r) h = go (feed c) refl (pieces-ended r)
  where
    go : (b : Bool) → feed c ≡ b → (has_feed r ≡ true → pieces feed r ≡ until_feed r ∷ pieces feed (past_feed r))
        → pick b ([] ∷ pieces feed r) (ahead c (pieces feed r)) ≡ pick b [] (c ∷ until_feed r) ∷ pieces feed (pick b r (past_feed r))
    go true e ih = refl
    go false e ih = rw (ih (rw e at h)) refl

pieces_open : (r : List ℕ) → has_feed r ≡ false → pieces feed r ≡ r ∷ []
unfolding pieces has_feed
pieces_open [] h = refl
pieces_open (c ∷ r) h = go (feed c) refl (pieces_open r)
  where
    go : (b : Bool) → feed c ≡ b → (has_feed r ≡ false → pieces feed r ≡ r ∷ []) → pick b ([] ∷ pieces feed r) (ahead c (pieces feed r)) ≡ (c ∷ r) ∷ []
    go true e ih = absurd (clash refl (rw e at h))
    go false e ih = rw (ih (rw e at h)) refl

until_open : (r : List ℕ) → has_feed r ≡ false → until_feed r ≡ r
unfolding until_feed has_feed
until_open [] h = refl
until_open (c ∷ r) h = go (feed c) refl (until_open r)
  where
    go : (b : Bool) → feed c ≡ b → (has_feed r ≡ false → until_feed r ≡ r) → pick b [] (c ∷ until_feed r) ≡ c ∷ r
    go true e ih = absurd (clash refl (rw e at h))
    go false e ih = rw (ih (rw e at h)) refl

pieces-first : (r : List ℕ) → (ws : List (List ℕ)) × (pieces feed r ≡ until_feed r ∷ ws)
pieces-first r = go (cases (has_feed r))
  where
    go : (has_feed r ≡ true) ⊎ (has_feed r ≡ false) → (ws : List (List ℕ)) × (pieces feed r ≡ until_feed r ∷ ws)
    go (inl h) = (pieces feed (past_feed r), pieces-ended r h)
    go (inr h) = ([], pieces_open r h ∙ ap (λ (x : List ℕ). x ∷ []) (sym (until_open r h)))

pieces-length : (r : List ℕ) → (has_feed r ≡ true → 2 ≤ length (pieces feed r)) × (has_feed r ≡ false → length (pieces feed r) ≡ 1)
pieces-length r =
    (λ h. let q = pieces-some feed (past_feed r) in rw (pieces-ended r h, q.2) (omega arith), λ h. rw (pieces_open r h) refl)

-- the pieces before line i, and those from it on
record Split (s : List ℕ) (i : ℕ) : Type 0 where
  front : List (List ℕ)
  long : length front ≡ i
  whole : pieces feed s ≡ front ++ pieces feed (rest_at s i)

split : (s : List ℕ) (i : ℕ) → i ≤ ended s → Split s i
unfolding rest_at ended
split s zero l = record { front = []; long = refl; whole = refl }
split s (suc i) l =
    let S = split s i (omega arith) in
    let r = rest_at s i in
    let m : length (pieces feed s) ≡ i + length (pieces feed r) =
    ap (λ (z : List (List ℕ)). length z) S.whole ∙ (length-append S.front (pieces feed r) ∙ ap (λ (z : ℕ). z + length (pieces feed r)) S.long) in
    go r S m (cases (has_feed r))
  where
    go : (r : List ℕ) → (S : Split s i) → length (pieces feed s) ≡ i + length (pieces feed (rest_at s i)) → (has_feed (rest_at s i) ≡ true) ⊎ (has_feed (rest_at s i) ≡ false) → Split s (suc i)
    go r S m (inr h) = absurd (omega (arith, (pieces-length (rest_at s i)).1 h))
    go r S m (inl h) =
        record {
          front = S.front ++ (until_feed (rest_at s i) ∷ []);
          long = length-append S.front (until_feed (rest_at s i) ∷ []) ∙ rw S.long (omega arith);
          whole = S.whole ∙ (ap (λ (z : List (List ℕ)). S.front ++ z) (pieces-ended (rest_at s i) h) ∙ sym (append_assoc S.front (until_feed (rest_at s i) ∷ []) (pieces feed (past_feed (rest_at s i)))));
        }

module _ (s : List ℕ) (i : ℕ) (l : i ≤ ended s) where
  S : Split s i
  S = split s i l

  pub line-is : line_at s i ≡ until_feed (rest_at s i)
  unfolding line_at
  line-is =
      let q = pieces-first (rest_at s i) in
      rw (S.whole, q.1) (get_or_at S.front (until_feed (rest_at s i)) q.0 [] i S.long)

  pieces-many : length (pieces feed s) ≡ i + length (pieces feed (rest_at s i))
  pieces-many =
      ap (λ (z : List (List ℕ)). length z) S.whole ∙ (length-append S.front (pieces feed (rest_at s i)) ∙ ap (λ (z : ℕ). z + length (pieces feed (rest_at s i))) S.long)

  pub feed-below : has_feed (rest_at s i) ≡ true → i < ended s
  unfolding ended
  feed-below h = omega (arith, pieces-many, (pieces-length (rest_at s i)).0 h)

  pub feed-last : has_feed (rest_at s i) ≡ false → ended s ≡ i
  unfolding ended
  feed-last h = omega (arith, pieces-many, (pieces-length (rest_at s i)).1 h)

  -- a line is at fault where it has no line feed or does not fit
  pub faulty-is : faulty s i ≡ not (has_feed (rest_at s i) && fits (tasks s) i (until_feed (rest_at s i)))
  unfolding faulty
  faulty-is = rw line-is (go (cases (has_feed (rest_at s i))))
    where
      go : (has_feed (rest_at s i) ≡ true) ⊎ (has_feed (rest_at s i) ≡ false)
          → leb (ended s) i || not (fits (tasks s) i (until_feed (rest_at s i))) ≡ not (has_feed (rest_at s i) && fits (tasks s) i (until_feed (rest_at s i)))
      go (inl h) = rw (h, lt-leb (ended s) i (feed-below h)) refl
      go (inr h) = rw (h, le-leb (ended s) i (omega (arith, feed-last h))) refl

  -- a line that has begun is looked at
  pub begun-line : 0 < length (rest_at s i) → i < begun s
  unfolding begun
  begun-line n = go (cases (has_feed (rest_at s i)))
    where
      go : (has_feed (rest_at s i) ≡ true) ⊎ (has_feed (rest_at s i) ≡ false) → i < ended s + bit (ltb 0 (length (line_at s (ended s))))
      go (inl h) = omega (arith, feed-below h)
      go (inr h) =
          let e : ended s ≡ i = feed-last h in
          rw (e, line-is, until_open (rest_at s i) h, lt-ltb 0 (length (rest_at s i)) n) (omega arith)

  -- where nothing is left, no line has begun
  pub begun_all : rest_at s i ≡ [] → begun s ≡ i
  unfolding begun has_feed until_feed
  begun_all n =
      let e : ended s ≡ i = feed-last (rw n refl) in
      rw (e, line-is, n) (omega arith)
