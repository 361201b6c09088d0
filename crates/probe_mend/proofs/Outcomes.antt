-- The public function hands nothing back and leaves what it is lent; what it prints is in no contract.
use mathlib.Core.Path.{refl}
use Rattle.outcome.specs.OneOutcome.{OneOutcome}
use Rattle.probe_mend.specs.contracts.mend_request as mend-request
use Rattle.probe_mend.proofs.mend_request.Reads as mend-request-reads

pub mend_request_one : OneOutcome mend-request.ended mend-request-reads.Pre mend-request-reads.Post
mend_request_one κs a r r' ws ws' pre p q = (refl, refl)
