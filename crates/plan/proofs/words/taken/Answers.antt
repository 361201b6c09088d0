-- What is said of an accepted file rests on the reader's graph being accepted.
use Rattle.reader.proofs.Laying.{read-accepted}
use Rattle.plan.proofs.words.taken.Goals as goal

pub answered-requires : goal.answered-requires
answered-requires g c = read-accepted c.args.file.now c.read.ensures (λ i. (c.type_inv.file i).fits) c.in-Ok.is
