use mathlib.Core.Path.{refl, sym, ◌∙◌}
use Rattle.reader.proofs.Laying.{usable, handed_over, handed_back}
use Rattle.schedule.proofs.Answers.{tick-accepted, tick-refused}
use Rattle.schedule.proofs.tick.Goals as goal

pub tick_on-requires : goal.tick_on-requires
tick_on-requires c = usable c.in-Ok.ensures.taken_into (λ i. (c.shared_slice_known-1.given i).fits)

pub returns-in-Err : goal.returns-in-Err
returns-in-Err c =
    sym (tick-refused c.args.file.now _ (handed_back _ c.in-Err.ensures.taken_into) _ refl c.args.run)

pub returns-in-Ok : goal.returns-in-Ok
returns-in-Ok c =
    c.tick_on.ensures ∙ sym (tick-accepted c.args.file.now _ (handed_over _ _ c.in-Ok.ensures.taken_into) refl c.args.run)
