-- No public contract of this crate leaves a choice. A quantity of one number is that number.
use Prim.Native.Nat.{ℕ}
use mathlib.Core.Path.{◌≡◌, refl, sym, ◌∙◌}
use Rattle.outcome.specs.OneOutcome.{OneOutcome}
use Rattle.units.specs.declared.Ticks.{Ticks}
use Rattle.units.specs.declared.Parts.{Parts}
use Rattle.units.specs.contracts.Parts.of_ticks as of-ticks
use Rattle.units.proofs.Parts.of_ticks.Reads as of-ticks-reads
use Rattle.units.specs.contracts.Parts.share as share
use Rattle.units.proofs.Parts.share.Reads as share-reads
use Rattle.units.specs.contracts.Parts.rest as rest
use Rattle.units.proofs.Parts.rest.Reads as rest-reads
use Rattle.units.specs.contracts.Parts.for_ticks as for-ticks
use Rattle.units.proofs.Parts.for_ticks.Reads as for-ticks-reads
use Rattle.units.specs.contracts.Parts.over as over
use Rattle.units.proofs.Parts.over.Reads as over_reads
use Rattle.units.specs.contracts.Parts.plus as plus
use Rattle.units.proofs.Parts.plus.Reads as plus-reads
use Rattle.units.specs.contracts.Parts.ticks as ticks
use Rattle.units.proofs.Parts.ticks.Reads as ticks-reads

pub same_parts : (p q : Parts) {n : ℕ} → p.0 ≡ n → q.0 ≡ n → p ≡ q
same_parts p q a b = λ i. record { 0 = (a ∙ sym b) i }

pub same-ticks : (p q : Ticks) {n : ℕ} → p.0 ≡ n → q.0 ≡ n → p ≡ q
same-ticks p q a b = λ i. record { 0 = (a ∙ sym b) i }

pub of-ticks-one : OneOutcome of-ticks.ended of-ticks-reads.Pre of-ticks-reads.Post
of-ticks-one κs a r r' ws ws' pre p q = (same_parts r r' p q, refl)

pub share-one : OneOutcome share.ended share-reads.Pre share-reads.Post
share-one κs a r r' ws ws' pre p q = (same_parts r r' p q, refl)

pub rest-one : OneOutcome rest.ended rest-reads.Pre rest-reads.Post
rest-one κs a r r' ws ws' pre p q = (same_parts r r' p q, refl)

pub for_ticks-one : OneOutcome for-ticks.ended for-ticks-reads.Pre for-ticks-reads.Post
for_ticks-one κs a r r' ws ws' pre p q = (same_parts r r' p q, refl)

pub over-one : OneOutcome over.ended over_reads.Pre over_reads.Post
over-one κs a r r' ws ws' pre p q = (same_parts r r' p q, refl)

pub plus_one : OneOutcome plus.ended plus-reads.Pre plus-reads.Post
plus_one κs a r r' ws ws' pre p q = (same_parts r r' p q, refl)

pub ticks-one : OneOutcome ticks.ended ticks-reads.Pre ticks-reads.Post
ticks-one κs a r r' ws ws' pre p q = (same-ticks r r' p q, refl)
