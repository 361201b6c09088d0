-- No public contract of this crate leaves a choice.
use mathlib.Core.Path.{refl, sym, ◌∙◌}
use Rattle.outcome.specs.OneOutcome.{OneOutcome}
use Rattle.summary.proofs.Unique.{tables_unique}
use Rattle.summary.specs.contracts.row.many as many
use Rattle.summary.proofs.row.many.Reads as many-reads
use Rattle.summary.specs.contracts.row.nth as nth
use Rattle.summary.proofs.row.nth.Reads as nth-reads
use Rattle.summary.specs.contracts.afresh as afresh
use Rattle.summary.proofs.afresh.Reads as afresh-reads
use Rattle.summary.specs.contracts.altered as altered
use Rattle.summary.proofs.altered.Reads as altered-reads

pub many-one : OneOutcome many.ended many-reads.Pre many-reads.Post
many-one κs a r r' ws ws' pre p q = (p ∙ sym q, refl)

pub nth-one : OneOutcome nth.ended nth-reads.Pre nth-reads.Post
nth-one κs a r r' ws ws' pre p q = (p.0 ∙ sym q.0, refl)

pub afresh-one : OneOutcome afresh.ended afresh-reads.Pre afresh-reads.Post
afresh-one κs a r r' ws ws' pre p q = (tables_unique (p pre.0 pre.1) (q pre.0 pre.1), refl)

pub altered-one : OneOutcome altered.ended altered-reads.Pre altered-reads.Post
altered-one κs a r r' ws ws' pre p q = (tables_unique (p pre.0 pre.1) (q pre.0 pre.1), refl)
