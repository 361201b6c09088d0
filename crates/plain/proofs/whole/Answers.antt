use native.Mathlib.Omega.{arith}
use borrow.Author.Rules.{rules}
use Rattle.plain.specs.Plain.{is_whole}
use Rattle.plain.proofs.Passed.{plain-few}
use Rattle.plain.proofs.whole.Goals as goal

pub overflow_add-result : goal.overflow_add-result
overflow_add-result c =
    let f = plain-few _ _ c.requires in
    omega (arith, f.0, f.1)

pub overflow_add-result-2 : goal.overflow_add-result-2
overflow_add-result-2 c =
    let f = plain-few _ _ c.requires in
    omega (arith, f.0, f.1, f.2)

pub returns : goal.returns
unfolding is_whole
returns c = search rules
