-- The public functions hand nothing back and leave what they are lent; what they print is in no contract.
use mathlib.Core.Path.{refl}
use Rattle.outcome.specs.OneOutcome.{OneOutcome}
use Rattle.probe_runs.specs.contracts.start_request as start-request
use Rattle.probe_runs.proofs.start_request.Reads as start-request-reads
use Rattle.probe_runs.specs.contracts.tick_request as tick-request
use Rattle.probe_runs.proofs.tick_request.Reads as tick-request-reads
use Rattle.probe_runs.specs.contracts.late_request as late-request
use Rattle.probe_runs.proofs.late_request.Reads as late-request-reads
use Rattle.probe_runs.specs.contracts.run_request as run-request
use Rattle.probe_runs.proofs.run_request.Reads as run-request-reads

pub start_request_one : OneOutcome start-request.ended start-request-reads.Pre start-request-reads.Post
start_request_one κs a r r' ws ws' pre p q = (refl, refl)

pub tick_request_one : OneOutcome tick-request.ended tick-request-reads.Pre tick-request-reads.Post
tick_request_one κs a r r' ws ws' pre p q = (refl, refl)

pub run_request_one : OneOutcome run-request.ended run-request-reads.Pre run-request-reads.Post
run_request_one κs a r r' ws ws' pre p q = (refl, refl)

pub late_request_one : OneOutcome late-request.ended late-request-reads.Pre late-request-reads.Post
late_request_one κs a r r' ws ws' pre p q = (refl, refl)
