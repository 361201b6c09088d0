use Prim.Native.Nat.{suc, ◌-◌, ◌/◌, ◌≤◌}
use mathlib.Core.Path.{◌≡◌, sym, ◌∙◌}
use native.Mathlib.Omega.{arith}
use lib.ListN.{length}
use lib.Dec.{lit<}
use Rattle.recorded.specs.Log.{instant_at}
use Rattle.recorded.proofs.Finishing.{last-is, last_none}
use Rattle.replay.proofs.last.Goals as goal

pub returns-then-m-eq0 : goal.returns-then-m-eq0
returns-then-m-eq0 c = (sym (last_none c.args.log.now (omega arith)), lit< tt)

pub returns : goal.returns
unfolding instant_at
returns c =
    let few : c.args.n ≤ 256 = omega (arith, c.requires.0) in
    let e : length c.args.log.now / 8 ≡ suc (length c.args.log.now / 8 - 1) = omega arith in
    (c.word.ensures.0 ∙ sym (last-is c.requires.1 few _ e), c.word.ensures.1)
