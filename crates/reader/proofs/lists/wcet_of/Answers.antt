use Prim.Native.Nat.{◌-◌}
use mathlib.Core.Path.{◌≡◌, ◌∙◌}
use native.Mathlib.Omega.{arith}
use Rattle.graph.specs.File.{words}
use Rattle.model.proofs.Tables.{padded-none, padded-more}
use borrow.Author.Rules.{rules}
use Rattle.reader.proofs.lists.wcet_of.Goals as goal

pub loop-i-init : goal.loop-i-init
loop-i-init c = c.requires.a_value ∙ padded-none 128 _

pub loop-i-preserved : goal.loop-i-preserved
unfolding words
loop-i-preserved c =
    let l = c.loop-i in
    simp (c.word.ensures.0, l.invariant) (padded-more 128 _ l.i (omega arith))

pub returns : goal.returns
returns c =
    let e : c.loop-i.i ≡ c.args.n = omega arith in
    rw (← e) c.loop-i.invariant
