use mathlib.Core.Path.{◌∙◌, sym, ap}
use native.Mathlib.Omega.{arith}
use Rattle.texts.specs.Text.{byte_at, stops}
use Rattle.texts.proofs.Cutting.{within, passed_more, found, not_found}
use Rattle.texts.proofs.until.Goals as goal

pub returns-then-stop : goal.returns-then-stop
returns-then-stop c =
    let a = c.args in
    let h = c.loop-i-test.true in
    found (λ k. stops a.what (byte_at a.t.now k)) _ a.at c.loop-i.i (omega arith) h c.loop-i.invariant
    (ap (stops a.what) (within a.t.now c.loop-i.i 10 0 h) ∙ sym c.stop.ensures ∙ c.if-stop.true)

pub loop-i-preserved : goal.loop-i-preserved
loop-i-preserved c =
    let a = c.args in
    let h = c.loop-i-test.true in
    passed_more (λ k. stops a.what (byte_at a.t.now k)) a.at c.loop-i.i c.loop-i.invariant
    (ap (stops a.what) (within a.t.now c.loop-i.i 10 0 h) ∙ sym c.stop.ensures ∙ c.if-stop.false)

pub returns : goal.returns
returns c =
    let a = c.args in
    not_found (λ k. stops a.what (byte_at a.t.now k)) _ a.at c.max.result (omega (arith, c.max.ensures)) (λ k l. c.loop-i.invariant k (omega (arith, c.max.ensures)))
