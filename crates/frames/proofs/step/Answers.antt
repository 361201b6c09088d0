use mathlib.Core.Bool.{◌&&◌}
use mathlib.Core.Path.{ap, ap₂, ◌∙◌}
use native.Mathlib.Omega.{arith}
use Rattle.vset.specs.Members.{is_in}
use Rattle.recorded.specs.Log.{instant_at}
use Rattle.recorded.proofs.Records.{fine-at}
use Rattle.frames.proofs.Ruling.{passed_next}
use Rattle.frames.proofs.step.Goals as goal

pub test-requires : goal.test-requires
test-requires c =
    omega (arith, (fine-at c.requires.lists.in_form c.args.k c.requires.k_bound).vertex, c.byte-v.ensures.0, c.requires.lists.few)

pub advance-next-requires : goal.advance-next-requires
advance-next-requires c = record { lists = c.requires.lists; k_bound = c.requires.k_bound; framed = c.requires.passed_by.framed }

pub returns : goal.returns
unfolding instant_at
returns c =
    let behind = c.test.ensures ∙ ap (is_in c.args.p.frame.behind) c.byte-v.ensures.0 in
    passed_next c.requires.lists.in_form c.args.k c.requires.k_bound c.args.p c.requires.passed_by c.advance-next.result c.advance-next.ensures
    _ _ (ap₂ ◌&&◌ c.starts.ensures behind) c.waits.ensures _ _ _ _ c.word-t.ensures.0 (rw c.then_some.ensures at c.or.ensures) (rw c.then_some-2.ensures at c.or-2.ensures) (rw c.then_some-3.ensures at c.or-3.ensures)
