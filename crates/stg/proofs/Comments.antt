-- A line to skip: # comes first after the blanks, and the next line begins past the line feed.
use mathlib.Core.Path.{◌≡◌, refl, sym, ◌∙◌}
use mathlib.Core.Bool.{Bool, true, false, ◌&&◌}
use mathlib.Core.List.{List, [], ◌∷◌}
use Prim.Native.Nat.{ℕ, ◌+◌, ◌≤◌, ◌<◌}
use native.Mathlib.Omega.{arith}
use lib.ListN.{length, get_or, drop}
use lib.Dec.{eqb}
use borrow.Author.Tests.{eq-eqb, ne_eqb, eqb-true}
use Rattle.std.specs.Prelude.{Option, Some, None}
use Rattle.model.specs.Places.{pick}
use Rattle.model.proofs.Bools.{not-is-true}
use Rattle.stg_text.specs.Fields.{feed, blank}
use Rattle.stg_text.specs.Layout.{skipped}
use Rattle.stg_scan.specs.Scan.{skip_at, feed_at_of}
use Rattle.stg_scan.specs.Rest.{until_feed, has_feed, past_feed}
use Rattle.stg.specs.Rows.{CommentRead}
use Rattle.stg_scan.proofs.Going.{drop_here, drop-end}
use Rattle.stg_scan.proofs.Skips.{Skipped, drop-next, after-skip}

-- where the first line feed stands
abbrev Feeds : List ℕ → List ℕ → Option ℕ → Type 0
Feeds s r None = has_feed r ≡ false
Feeds s r (Some q) = (has_feed r ≡ true) × (past_feed r ≡ drop (q + 1) s)

feeds : (s r : List ℕ) (i : ℕ) → drop i s ≡ r → Feeds s r (feed_at_of i r)
unfolding feed_at_of has_feed past_feed
feeds s [] i e = refl
feeds s (c ∷ r) i e = go (feed c) refl (feed_at_of (i + 1) r) (feeds s r (i + 1) (drop-next s i c r e))
  where
    go : (b : Bool) → feed c ≡ b → (o : Option ℕ) → Feeds s r o → Feeds s (c ∷ r) (pick b (Some i) o)
    go true h o k = rw h (refl, sym (drop-next s i c r e))
    go false h None k = rw h k
    go false h (Some q) k = rw h k

and-false : (b : Bool) → b && false ≡ false
and-false true = refl
and-false false = refl

module _ (s : List ℕ) (at : ℕ) (l : at ≤ length s) where
  abbrev p : ℕ
  p = skip_at at (drop at s)

  K : Skipped s at p
  K = after-skip s (drop at s) at refl l

  pub comment-nothing : p ≡ length s → has_feed (drop at s) && skipped (until_feed (drop at s)) ≡ false
  unfolding has_feed
  comment-nothing e = let d : drop p s ≡ [] = drop-end s p (omega arith) in rw (K.same.ends, d) refl

  module _ (b : p < length s) where
    d : drop p s ≡ get_or s p 0 ∷ drop (p + 1) s
    d = drop_here s p b

    bare-byte : blank (get_or s p 0) ≡ false
    bare-byte = not-is-true (blank (get_or s p 0)) (rw d at K.is-bare)

    is-comment : skipped (until_feed (drop at s)) ≡ eqb (get_or s p 0) 35
    unfolding until_feed skipped feed
    is-comment = K.same.comment ∙ rw d (go (eqb (get_or s p 0) 10) refl)
      where
        go : (x : Bool) → eqb (get_or s p 0) 10 ≡ x → skipped (pick x [] (get_or s p 0 ∷ until_feed (drop (p + 1) s))) ≡ eqb (get_or s p 0) 35
        go true e = sym (ne_eqb (get_or s p 0) 35 (λ q. omega (arith, eqb-true (get_or s p 0) 10 e)))
        go false e = rw bare-byte refl

    pub comment_other : (get_or s p 0 ≡ 35 → ⊥) → has_feed (drop at s) && skipped (until_feed (drop at s)) ≡ false
    comment_other n = rw (is-comment, ne_eqb (get_or s p 0) 35 n) (and-false (has_feed (drop at s)))

    F : Feeds s (drop p s) (feed_at_of p (drop p s))
    F = feeds s (drop p s) p refl

    pub comment_open : feed_at_of p (drop p s) ≡ None → has_feed (drop at s) && skipped (until_feed (drop at s)) ≡ false
    comment_open e = rw (K.same.ends, rw e at F) refl

    pub comment-read : get_or s p 0 ≡ 35 → (q : ℕ) → feed_at_of p (drop p s) ≡ Some q → p ≤ q → q < length s → CommentRead s at (q + 1)
    comment-read e q f h m =
        let k = rw f at F in
        record {
          fine = rw (is-comment, eq-eqb (get_or s p 0) 35 e, K.same.ends, k.0) refl;
          past = K.same.past ∙ k.1;
          further = omega (arith, K.from);
          to = omega arith;
        }
