-- Blanks skipped: the line that goes on has the same fields.
use mathlib.Core.Path.{◌≡◌, refl, sym, ap, ◌∙◌}
use mathlib.Core.Bool.{Bool, true, false, not}
use mathlib.Core.List.{List, [], ◌∷◌}
use mathlib.Core.Logic.{◌⊎◌, inl, inr}
use Prim.Native.Nat.{ℕ, ◌+◌, ◌≤◌}
use native.Mathlib.Omega.{arith}
use lib.ListN.{length, drop, length-drop}
use lib.Seq.{drop-drop}
use lib.Dec.{eqb}
use borrow.Author.Tests.{eqb-true, ne_eqb}
use Rattle.model.specs.Places.{pick}
use Rattle.model.proofs.Bools.{or_cases}
use Rattle.stg_text.specs.Fields.{pieces, feed, blank, fields}
use Rattle.stg_text.specs.Layout.{skipped}
use Rattle.stg_scan.specs.Scan.{skip_at}
use Rattle.stg_scan.specs.Rest.{until_feed, has_feed, past_feed}

-- ---- a byte that parts

pub blank-no-feed : (c : ℕ) → blank c ≡ true → feed c ≡ false
unfolding blank feed
blank-no-feed c h = go (or_cases (eqb c 32) (eqb c 9) h)
  where
    go : (eqb c 32 ≡ true) ⊎ (eqb c 9 ≡ true) → eqb c 10 ≡ false
    go (inl e) = ne_eqb c 10 (λ q. omega (arith, eqb-true c 32 e))
    go (inr e) = ne_eqb c 10 (λ q. omega (arith, eqb-true c 9 e))

-- the line that begins with the rest r has the fields of the line that begins with r', and ends where that ends
pub record Same (r r' : List ℕ) : Type 0 where
  pub line : fields (until_feed r) ≡ fields (until_feed r')
  pub ends : has_feed r ≡ has_feed r'
  pub past : past_feed r ≡ past_feed r'
  pub comment : skipped (until_feed r) ≡ skipped (until_feed r')

fields-blank : (c : ℕ) (l : List ℕ) → blank c ≡ true → fields (c ∷ l) ≡ fields l
unfolding fields pieces
fields-blank c l h = rw h refl

same-blank : (c : ℕ) (r : List ℕ) → blank c ≡ true → Same (c ∷ r) r
unfolding until_feed has_feed past_feed skipped
same-blank c r h =
    let f = blank-no-feed c h in
    record { line = rw f (fields-blank c (until_feed r) h); ends = rw f refl; past = rw f refl; comment = rw (f, h) refl }

same_trans : (a b c : List ℕ) → Same a b → Same b c → Same a c
same_trans a b c x y = record { line = x.line ∙ y.line; ends = x.ends ∙ y.ends; past = x.past ∙ y.past; comment = x.comment ∙ y.comment }

-- ---- blanks skipped

pub drop-next : (s : List ℕ) (i c : ℕ) (r : List ℕ) → drop i s ≡ c ∷ r → drop (i + 1) s ≡ r
drop-next s i c r e = sym (drop-drop 1 i s) ∙ ap (drop 1) e

-- the rest does not begin with a blank or a tab
abbrev pub bare : List ℕ → Bool
bare [] = true
bare (c ∷ r) = not (blank c)

pub record Skipped (s : List ℕ) (i p : ℕ) : Type 0 where
  pub same : Same (drop i s) (drop p s)
  pub is-bare : bare (drop p s) ≡ true
  pub from : i ≤ p
  pub to : p ≤ length s

pub after-skip : (s r : List ℕ) (i : ℕ) → drop i s ≡ r → i ≤ length s → Skipped s i (skip_at i r)
unfolding skip_at
after-skip s [] i e l = record { same = record { line = refl; ends = refl; past = refl; comment = refl }; is-bare = rw e refl; from = omega arith; to = l }
after-skip s (c ∷ r) i e l = go (blank c) refl (after-skip s r (i + 1) (drop-next s i c r e))
  where
    more : i + 1 ≤ length s
    more = omega (arith, length-drop i s, ap (λ (x : List ℕ). length x) e)

    go : (b : Bool) → blank c ≡ b → (i + 1 ≤ length s → Skipped s (i + 1) (skip_at (i + 1) r)) → Skipped s i (pick b (skip_at (i + 1) r) i)
    go true h ih =
        let k = ih more in
        record {
          same = same_trans (drop i s) (drop (i + 1) s) (drop (skip_at (i + 1) r) s) (rw (e, drop-next s i c r e) (same-blank c r h)) k.same;
          is-bare = k.is-bare;
          from = omega (arith, k.from);
          to = k.to;
        }
    go false h ih = record { same = record { line = refl; ends = refl; past = refl; comment = refl }; is-bare = rw (e, h) refl; from = omega arith; to = l }
