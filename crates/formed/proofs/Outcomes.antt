-- No public contract of this crate leaves a choice.
use mathlib.Core.Path.{◌≡◌, refl, sym, ◌∙◌}
use mathlib.Core.List.{List}
use Prim.Native.Nat.{ℕ}
use native.Mathlib.Omega.{arith}
use lib.Seq.{ext_get_or}
use Rattle.model.proofs.Tables.{same-table}
use Rattle.outcome.specs.OneOutcome.{OneOutcome}
use Rattle.vset.proofs.Same.{same_set}
use Rattle.formed.specs.Passing.{SpentBy}
use Rattle.formed.specs.declared.Spent.{Spent}
use Rattle.formed.specs.contracts.starts as starts
use Rattle.formed.proofs.starts.Reads as starts-reads
use Rattle.formed.specs.contracts.switched as switched
use Rattle.formed.proofs.switched.Reads as switched-reads
use Rattle.formed.specs.contracts.judge as judge
use Rattle.formed.proofs.judge.Reads as judge-reads
use Rattle.formed.specs.contracts.add_up as add-up
use Rattle.formed.proofs.add_up.Reads as add-up-reads

pub starts-one : OneOutcome starts.ended starts-reads.Pre starts-reads.Post
starts-one κs a r r' ws ws' pre p q = (p ∙ sym q, refl)

pub switched-one : OneOutcome switched.ended switched-reads.Pre switched-reads.Post
switched-one κs a r r' ws ws' pre p q = (same_set r r' _ p q, refl)

pub judge-one : OneOutcome judge.ended judge-reads.Pre judge-reads.Post
judge-one κs a r r' ws ws' pre p q = (p ∙ sym q, refl)

spent_unique : (n : ℕ) (l : List ℕ) (r r' : Spent) → SpentBy n l r → SpentBy n l r' → r ≡ r'
spent_unique n l r r' p q =
    let t : r.totals ≡ r'.totals = same-table n p.totals.size q.totals.size
    (λ v h. p.totals.at v h ∙ sym (q.totals.at v h)) p.totals.past q.totals.past in
    let s : r.lasts ≡ r'.lasts = ext_get_or 0 r.lasts r'.lasts (p.lasts.size ∙ sym q.lasts.size)
    (λ v h. p.lasts.at v (omega (arith, p.lasts.size)) ∙ sym (q.lasts.at v (omega (arith, p.lasts.size)))) in
    λ i. record { totals = t i; lasts = s i }

pub add-up-one : OneOutcome add-up.ended add-up-reads.Pre add-up-reads.Post
add-up-one κs a r r' ws ws' pre p q = (spent_unique _ _ r r' p q, refl)
