-- The public functions hand nothing back and leave what they are lent; what they print is in no contract.
use mathlib.Core.Path.{refl}
use Rattle.outcome.specs.OneOutcome.{OneOutcome}
use Rattle.probe_stg.specs.contracts.read_request as read-request
use Rattle.probe_stg.proofs.read_request.Reads as read-request-reads
use Rattle.probe_stg.specs.contracts.write_request as write-request
use Rattle.probe_stg.proofs.write_request.Reads as write-request-reads

pub read_request_one : OneOutcome read-request.ended read-request-reads.Pre read-request-reads.Post
read_request_one κs a r r' ws ws' pre p q = (refl, refl)

pub write_request_one : OneOutcome write-request.ended write-request-reads.Pre write-request-reads.Post
write_request_one κs a r r' ws ws' pre p q = (refl, refl)
