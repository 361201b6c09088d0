-- The public functions hand nothing back and leave what they are lent; what they print is in no contract.
use mathlib.Core.Path.{refl}
use Rattle.outcome.specs.OneOutcome.{OneOutcome}
use Rattle.probe_bounds.specs.contracts.bounds_request as bounds-request
use Rattle.probe_bounds.proofs.bounds_request.Reads as bounds-request-reads
use Rattle.probe_bounds.specs.contracts.second_request as second-request
use Rattle.probe_bounds.proofs.second_request.Reads as second-request-reads
use Rattle.probe_bounds.specs.contracts.path_request as path-request
use Rattle.probe_bounds.proofs.path_request.Reads as path-request-reads
use Rattle.probe_bounds.specs.contracts.enough_request as enough-request
use Rattle.probe_bounds.proofs.enough_request.Reads as enough-request-reads

pub bounds_request_one : OneOutcome bounds-request.ended bounds-request-reads.Pre bounds-request-reads.Post
bounds_request_one κs a r r' ws ws' pre p q = (refl, refl)

pub second_request_one : OneOutcome second-request.ended second-request-reads.Pre second-request-reads.Post
second_request_one κs a r r' ws ws' pre p q = (refl, refl)

pub path_request_one : OneOutcome path-request.ended path-request-reads.Pre path-request-reads.Post
path_request_one κs a r r' ws ws' pre p q = (refl, refl)

pub enough_request_one : OneOutcome enough-request.ended enough-request-reads.Pre enough-request-reads.Post
enough_request_one κs a r r' ws ws' pre p q = (refl, refl)
