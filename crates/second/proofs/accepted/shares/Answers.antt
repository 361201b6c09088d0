use mathlib.Core.Path.{ap, ◌∙◌}
use Prim.Native.Nat.{◌<◌}
use lib.ListN.{length-take}
use Rattle.std.proofs.lemmas.List.{get_or-take}
use native.Mathlib.Omega.{arith}
use borrow.Author.Rules.{rules}
use Rattle.model.specs.Places.{padded}
use Rattle.model.proofs.Tables.{padded-none}
use Rattle.weights.proofs.Filled.{filled}
use Rattle.second.specs.Shares.{share_by}
use Rattle.second.proofs.accepted.shares.Goals as goal

pub loop-s-init : goal.loop-s-init
loop-s-init c = padded-none 10 _

pub share-requires : goal.share-requires
share-requires c =
    let s = c.loop-s.s in
    let a = c.args in
    let few : s < a.kinds = omega (arith, length-take a.kinds a.cores.now) in
    rw (get_or-take a.kinds a.cores.now s 0 few) (c.requires.by_index s few)

pub loop-s-preserved : goal.loop-s-preserved
unfolding share_by
loop-s-preserved c =
    let l = c.loop-s in
    let a = c.args in
    let here = get_or-take a.kinds a.cores.now l.s 0 (omega (arith, length-take a.kinds a.cores.now)) in
    filled 10 _ l.s c.share.result.0 l.list (omega arith) l.invariant (rw here at c.share.ensures)

pub returns : goal.returns
returns c =
    let l = c.loop-s in
    l.invariant ∙ ap (padded 10 _) (omega arith)
