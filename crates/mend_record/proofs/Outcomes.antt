-- Each public function's contract leaves one outcome.
use mathlib.Core.Path.{refl, sym, ◌∙◌}
use Rattle.outcome.specs.OneOutcome.{OneOutcome}
use Rattle.mend_record.specs.contracts.stray as stray
use Rattle.mend_record.proofs.stray.Reads as stray-reads
use Rattle.mend_record.specs.contracts.cleared as cleared
use Rattle.mend_record.proofs.cleared.Reads as cleared-reads
use Rattle.mend_record.specs.contracts.put as put
use Rattle.mend_record.proofs.put.Reads as put_reads
use Rattle.mend_record.specs.contracts.note_fate as note-fate
use Rattle.mend_record.proofs.note_fate.Reads as note-fate-reads

pub stray-one : OneOutcome stray.ended stray-reads.Pre stray-reads.Post
stray-one κs a r r' ws ws' pre p q = (p ∙ sym q, refl)

pub cleared-one : OneOutcome cleared.ended cleared-reads.Pre cleared-reads.Post
cleared-one κs a r r' ws ws' pre p q = (p.0 ∙ sym q.0, refl)

pub put_one : OneOutcome put.ended put_reads.Pre put_reads.Post
put_one κs a r r' ws ws' pre p q = (refl, λ i. ((p ∙ sym q) i, (tt, (tt, (tt, tt)))))

pub note_fate_one : OneOutcome note-fate.ended note-fate-reads.Pre note-fate-reads.Post
note_fate_one κs a r r' ws ws' pre p q = (p.0 ∙ sym q.0, λ i. ((p.1 ∙ sym q.1) i, (tt, (tt, (tt, tt)))))
