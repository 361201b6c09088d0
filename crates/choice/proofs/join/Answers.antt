use Rattle.choice.proofs.OfKinds.{joined}
use Rattle.choice.proofs.join.Goals as goal

pub returns : goal.returns
returns c =
    let a = c.args in
    joined a.words.now a.kind a.v c.with-more.result c.requires.words_len c.requires.kind_bound.0
    (rw c.set_at.ensures at c.with-more.ensures)
