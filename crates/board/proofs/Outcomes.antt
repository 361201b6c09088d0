-- No public contract of this crate leaves a choice.
use mathlib.Core.Path.{refl, sym, ◌∙◌}
use Rattle.outcome.specs.OneOutcome.{OneOutcome}
use Rattle.board.specs.contracts.nameless as nameless
use Rattle.board.proofs.nameless.Reads as nameless-reads
use Rattle.board.specs.contracts.read as read
use Rattle.board.proofs.read.Reads as read-reads
use Rattle.board.specs.contracts.cores as cores
use Rattle.board.proofs.cores.Reads as cores-reads
use Rattle.board.specs.contracts.kinds as kinds
use Rattle.board.proofs.kinds.Reads as kinds-reads
use Rattle.board.specs.contracts.wcets as wcets
use Rattle.board.proofs.wcets.Reads as wcets-reads

pub nameless-one : OneOutcome nameless.ended nameless-reads.Pre nameless-reads.Post
nameless-one κs a r r' ws ws' pre p q = (p ∙ sym q, refl)

pub read_one : OneOutcome read.ended read-reads.Pre read-reads.Post
read_one κs a r r' ws ws' pre p q = (p ∙ sym q, refl)

pub cores-one : OneOutcome cores.ended cores-reads.Pre cores-reads.Post
cores-one κs a r r' ws ws' pre p q = (p ∙ sym q, refl)

pub kinds-one : OneOutcome kinds.ended kinds-reads.Pre kinds-reads.Post
kinds-one κs a r r' ws ws' pre p q = (p ∙ sym q, refl)

pub wcets-one : OneOutcome wcets.ended wcets-reads.Pre wcets-reads.Post
wcets-one κs a r r' ws ws' pre p q = (p ∙ sym q, refl)
