use mathlib.Core.Path.{◌≡◌, ap, ◌∙◌}
use native.Mathlib.Omega.{arith}
use Rattle.model.specs.Places.{padded}
use Rattle.model.proofs.Tables.{padded-none}
use Rattle.weights.specs.Weight.{rates_of}
use Rattle.weights.proofs.Filled.{filled}
use Rattle.weights.proofs.rates.Goals as goal

pub loop-s-init : goal.loop-s-init
loop-s-init c = padded-none 10 _

pub rate-requires : goal.rate-requires
rate-requires c = c.requires.by_index c.loop-s.s (omega arith)

pub loop-s-preserved : goal.loop-s-preserved
unfolding rates_of
loop-s-preserved c =
    let l = c.loop-s in
    let a = c.args in
    filled 10 (rates_of a.by a.cores.now) l.s _ _ (omega arith) l.invariant c.rate.ensures

pub returns : goal.returns
returns c =
    let e : c.loop-s.s ≡ c.args.kinds = omega arith in
    c.loop-s.invariant ∙ ap (padded 10 _) e
