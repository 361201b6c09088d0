-- Each public function's contract leaves one outcome: two results that it allows for the same arguments are equal.
use mathlib.Core.Path.{◌≡◌, refl, sym, ◌∙◌}
use Rattle.outcome.specs.OneOutcome.{OneOutcome}
use Rattle.rules.specs.contracts.wrong_length as wrong-length
use Rattle.rules.proofs.wrong_length.Reads as wrong-length-reads
use Rattle.rules.specs.contracts.record_fails as record-fails
use Rattle.rules.proofs.record_fails.Reads as record-fails-reads
use Rattle.rules.specs.contracts.counts_fail as counts-fail
use Rattle.rules.proofs.counts_fail.Reads as counts-fail-reads

pub wrong-length-one : OneOutcome wrong-length.ended wrong-length-reads.Pre wrong-length-reads.Post
wrong-length-one κs a r r' ws ws' pre p q = (p ∙ sym q, refl)

pub record_fails_one : OneOutcome record-fails.ended record-fails-reads.Pre record-fails-reads.Post
record_fails_one κs a r r' ws ws' pre p q = (p ∙ sym q, refl)

pub counts_fail_one : OneOutcome counts-fail.ended counts-fail-reads.Pre counts-fail-reads.Post
counts_fail_one κs a r r' ws ws' pre p q = (p ∙ sym q, refl)
