-- The contract of the public function leaves one answer. What is printed is in no contract.
use mathlib.Core.Path.{refl, sym, ◌∙◌}
use Rattle.outcome.specs.OneOutcome.{OneOutcome}
use Rattle.show.specs.contracts.sheet as sheet
use Rattle.show.proofs.sheet.Reads as sheet-reads

pub sheet-one : OneOutcome sheet.ended sheet-reads.Pre sheet-reads.Post
sheet-one κs a r r' ws ws' pre p q = (p ∙ sym q, refl)
