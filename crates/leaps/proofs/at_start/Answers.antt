use mathlib.Core.Path.{refl}
use Rattle.vset.specs.Members.{is_in}
use Rattle.ready.specs.Ready.{some_left}
use Rattle.remains.specs.Remains.{place}
use Rattle.tick.specs.Run.{left_of}
use Rattle.tick.proofs.Awaited.{awaited-settled}
use Rattle.leaps.proofs.Leaping.{kept-start}
use Rattle.leaps.proofs.at_start.Goals as goal

pub returns : goal.returns
unfolding left_of some_left
returns c = record {
  instant_value = refl;
  kept = λ g A T.
      kept-start g A _ (record { agrees = refl; at_start = refl; short = T.short; past = T.past; unmarked = c.none-ran.ensures.are; numbers = T.numbers }) _ refl refl c.busy.ensures.are
      (awaited-settled g A (place c.args.left.now) (is_in c.busy.result) c.busy.ensures.are c.args.waiting.now c.held.result T.numbers c.held.ensures) refl T.long;
}
