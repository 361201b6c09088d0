-- No public contract of this crate leaves a choice: a set's members say which set it is.
use mathlib.Core.Path.{refl, sym, ◌∙◌}
use Rattle.outcome.specs.OneOutcome.{OneOutcome}
use Rattle.vset.proofs.Same.{same_set}
use Rattle.vset.specs.contracts.none as none
use Rattle.vset.proofs.none.Reads as none_reads
use Rattle.vset.specs.contracts.test as test
use Rattle.vset.proofs.test.Reads as test-reads
use Rattle.vset.specs.contracts.with as with
use Rattle.vset.proofs.with.Reads as with-reads
use Rattle.vset.specs.contracts.with_if as with-if
use Rattle.vset.proofs.with_if.Reads as with-if-reads
use Rattle.vset.specs.contracts.without as without
use Rattle.vset.proofs.without.Reads as without-reads
use Rattle.vset.specs.contracts.both as both
use Rattle.vset.proofs.both.Reads as both-reads
use Rattle.vset.specs.contracts.either as either
use Rattle.vset.proofs.either.Reads as either-reads
use Rattle.vset.specs.contracts.minus as minus
use Rattle.vset.proofs.minus.Reads as minus-reads
use Rattle.vset.specs.contracts.is_empty as is-empty
use Rattle.vset.proofs.is_empty.Reads as is-empty-reads
use Rattle.vset.specs.contracts.size as size
use Rattle.vset.proofs.size.Reads as size-reads
use Rattle.vset.specs.contracts.lowest as lowest
use Rattle.vset.proofs.lowest.Reads as lowest-reads
use Rattle.vset.specs.contracts.next as next
use Rattle.vset.proofs.next.Reads as next-reads
use Rattle.vset.specs.contracts.first as first
use Rattle.vset.proofs.first.Reads as first_reads

pub none-one : OneOutcome none.ended none_reads.Pre none_reads.Post
none-one κs a r r' ws ws' pre p q = (same_set r r' _ p q, refl)

pub test-one : OneOutcome test.ended test-reads.Pre test-reads.Post
test-one κs a r r' ws ws' pre p q = (p ∙ sym q, refl)

pub with-one : OneOutcome with.ended with-reads.Pre with-reads.Post
with-one κs a r r' ws ws' pre p q = (same_set r r' _ p q, refl)

pub with_if_one : OneOutcome with-if.ended with-if-reads.Pre with-if-reads.Post
with_if_one κs a r r' ws ws' pre p q = (same_set r r' _ p q, refl)

pub without-one : OneOutcome without.ended without-reads.Pre without-reads.Post
without-one κs a r r' ws ws' pre p q = (same_set r r' _ p q, refl)

pub both_one : OneOutcome both.ended both-reads.Pre both-reads.Post
both_one κs a r r' ws ws' pre p q = (same_set r r' _ p q, refl)

pub either-one : OneOutcome either.ended either-reads.Pre either-reads.Post
either-one κs a r r' ws ws' pre p q = (same_set r r' _ p q, refl)

pub minus_one : OneOutcome minus.ended minus-reads.Pre minus-reads.Post
minus_one κs a r r' ws ws' pre p q = (same_set r r' _ p q, refl)

pub is-empty-one : OneOutcome is-empty.ended is-empty-reads.Pre is-empty-reads.Post
is-empty-one κs a r r' ws ws' pre p q = (p ∙ sym q, refl)

pub size-one : OneOutcome size.ended size-reads.Pre size-reads.Post
size-one κs a r r' ws ws' pre p q = (p ∙ sym q, refl)

pub lowest-one : OneOutcome lowest.ended lowest-reads.Pre lowest-reads.Post
lowest-one κs a r r' ws ws' pre p q = (p ∙ sym q, refl)

pub next_one : OneOutcome next.ended next-reads.Pre next-reads.Post
next_one κs a r r' ws ws' pre p q =
    let v = p.0 ∙ sym q.0 in
    let rest = same_set r.rest r'.rest _ p.1 (rw (← v) at q.1) in
    (λ i. record { v = v i; rest = rest i }, refl)

pub first_one : OneOutcome first.ended first_reads.Pre first_reads.Post
first_one κs a r r' ws ws' pre p q = (same_set r r' _ p q, refl)
