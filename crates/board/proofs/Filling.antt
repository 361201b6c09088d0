-- What stands in the lists, from what the code tests.
use Rattle.std.proofs.Common.{◌≡◌, refl, sym, ◌∙◌, arith, List, Option, ℕ, ◌%◌, ◌≤◌, ◌<◌}
use Rattle.std.specs.Prelude.{unwrap_or}
use lib.ListN.{get_or}
use lib.Seq.{take_all}
use borrow.Author.Tests.{lt-ltb, le-ltb}
use mathlib.Core.Logic.{◌⊎◌, inl, inr}
use Rattle.model.specs.Places.{table, padded}
use Rattle.model.proofs.Places.{first-le}
use Rattle.model.proofs.Bools.{le-or-lt}
use Rattle.model.proofs.Tables.{padded-length, padded-take}
use Rattle.texts.specs.Text.{word_at, word_after, which_name, below}
use Rattle.board.specs.declared.Names.{Names}
use Rattle.board.specs.Lists.{kind_at}

-- a list whose places are all filled
pub filled : (f : ℕ → ℕ) (l n : ℕ) → l ≡ n → padded l f n ≡ table f l
filled f l n e = rw (← e) (sym (take_all l (padded l f l) (omega (arith, padded-length l f l (omega arith)))) ∙ padded-take l f l)

-- a number of at most n that is found below n, or else n
pub found_or : (n k : ℕ) → k ≤ n → unwrap_or (below n k) n ≡ k
found_or n k l = go (le-or-lt n k)
  where
    go : (n ≤ k) ⊎ (k < n) → unwrap_or (below n k) n ≡ k
    go (inl h) = rw (le-ltb k n h) (omega arith)
    go (inr h) = rw (lt-ltb k n h) refl

pub kind-found : (t : List ℕ) (n : Names) (v j m : ℕ) (o : Option ℕ) → v < n.stages → j ≡ word_after t (get_or n.stage v 0)
    → o ≡ below n.kinds (which_name t n.kind n.kinds (word_at t j)) → m ≡ unwrap_or o n.kinds → m % 256 ≡ kind_at t n v
kind-found t n v j m o l e f g =
    rw (g, f, e, lt-ltb v n.stages l, found_or n.kinds (which_name t n.kind n.kinds (word_at t (word_after t (get_or n.stage v 0)))) (first-le _ n.kinds)) refl
