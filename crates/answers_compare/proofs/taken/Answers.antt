-- What is said of two accepted files rests on the reader's second graph being accepted too.
use Rattle.reader.proofs.Laying.{read-accepted}
use Rattle.answers_compare.proofs.taken.Goals as goal

pub with-requires-clause-accepted_graph_2 : goal.with-requires-clause-accepted_graph_2
with-requires-clause-accepted_graph_2 g c = read-accepted c.args.file.now c.read.ensures (λ i. (c.type_inv.file i).fits) c.in-Ok.is
