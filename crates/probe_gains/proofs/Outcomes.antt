-- The public functions hand nothing back and leave what they are lent; what they print is in no contract.
use mathlib.Core.Path.{refl}
use Rattle.outcome.specs.OneOutcome.{OneOutcome}
use Rattle.probe_gains.specs.contracts.gains_request as gains-request
use Rattle.probe_gains.proofs.gains_request.Reads as gains-request-reads
use Rattle.probe_gains.specs.contracts.altered_request as altered-request
use Rattle.probe_gains.proofs.altered_request.Reads as altered-request-reads

pub gains_request_one : OneOutcome gains-request.ended gains-request-reads.Pre gains-request-reads.Post
gains_request_one κs a r r' ws ws' pre p q = (refl, refl)

pub altered_request_one : OneOutcome altered-request.ended altered-request-reads.Pre altered-request-reads.Post
altered_request_one κs a r r' ws ws' pre p q = (refl, refl)
