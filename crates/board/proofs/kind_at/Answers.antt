use Rattle.board.proofs.Filling.{kind-found}
use Rattle.board.proofs.kind_at.Goals as goal

pub returns-then-v-names : goal.returns-then-v-names
returns-then-v-names c =
    let a = c.args in
    kind-found a.t.now a.names a.v _ _ _ c.if-v-names.true c.after-at.ensures c.find-found.ensures c.unwrap_or.ensures
