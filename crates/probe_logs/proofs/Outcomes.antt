-- The public functions hand nothing back and leave what they are lent; what they print is in no contract.
use mathlib.Core.Path.{refl}
use Rattle.outcome.specs.OneOutcome.{OneOutcome}
use Rattle.probe_logs.specs.contracts.replay_request as replay-request
use Rattle.probe_logs.proofs.replay_request.Reads as replay-request-reads
use Rattle.probe_logs.specs.contracts.log_request as log-request
use Rattle.probe_logs.proofs.log_request.Reads as log-request-reads

pub replay_request_one : OneOutcome replay-request.ended replay-request-reads.Pre replay-request-reads.Post
replay_request_one κs a r r' ws ws' pre p q = (refl, refl)

pub log_request_one : OneOutcome log-request.ended log-request-reads.Pre log-request-reads.Post
log_request_one κs a r r' ws ws' pre p q = (refl, refl)
